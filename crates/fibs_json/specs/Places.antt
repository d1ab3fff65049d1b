-- Where a line is in its stream, and what is printed for lines with their places.
use Rattle.std.specs.Prelude.{◌≡◌, ◌≤◌, ◌<◌, ◌+◌, ◌-◌, ◌^◌, ℕ, min, List, [], ◌∷◌, ◌++◌, codes, length, take}
use Rattle.fibs_lines.specs.Lines.{ReadLine, lines_of, rest_of, kept_limit}
use Rattle.fibs_engine.specs.Streams.{Printing}
use Rattle.fibs_json.specs.Json.{Member, member, more_members, whole}
use Rattle.fibs_json.specs.Lines.{LineObject, line_object}

-- a count as 64 bits hold it: up to the greatest number
abbrev pub in_64_bits : ℕ → ℕ
in_64_bits n = min n (2 ^ 64 - 1)

-- so many bytes of a stream are its shortest front in which so many lines have ended: the next line begins behind them
pub record BeginsAt (s : List ℕ) (before offset : ℕ) : Type 0 where
  pub within : offset ≤ length s
  pub ended : length (lines_of (take offset s)) ≡ before
  pub shortest : (n : ℕ) → n < offset → length (lines_of (take n s)) < before

-- the number of a line, from 1, and how many bytes of the stream come before it
abbrev pub place_members : ℕ → ℕ → List Member
place_members number offset =
    member (codes "line_number") (whole number) ∷ member (codes "offset") (whole offset) ∷ []

-- the place of the line before which so many lines have ended
abbrev pub place_of : ℕ → ℕ → List Member
place_of before offset = place_members (in_64_bits (before + 1)) (in_64_bits offset)

-- an object with further members at its end
abbrev pub WithMembers : List ℕ → List Member → List ℕ → Type 0
WithMembers object members text =
    (front : List ℕ) × (object ≡ front ++ (125 ∷ [])) × (text ≡ front ++ (more_members members ++ (125 ∷ [])))

-- the object of a line of this stream before which so many lines have ended: that of the line alone, with its place
abbrev pub PlacedObject : List ℕ → ℕ → ReadLine → List ℕ → Type 0
PlacedObject s before line text =
    (object : List ℕ) × (offset : ℕ) × LineObject line object × BeginsAt s before offset
    × WithMembers object (place_of before offset) text

-- what is printed for lines, each ended by a byte 10, if that of a line asks how many lines come before it: so many
-- come before the first one
abbrev pub NumberedText : (ℕ → ReadLine → List ℕ → Type 0) → ℕ → List ReadLine → List ℕ → Type 0
NumberedText Prints before [] text = text ≡ []
NumberedText Prints before (line ∷ lines) text =
    (first rest : List ℕ) × Prints before line first × NumberedText Prints (before + 1) lines rest
    × (text ≡ first ++ (10 ∷ rest))

-- what is printed for the lines of a stream, if that of a line asks for its place in the stream
abbrev pub EachPlaced : (List ℕ → ℕ → ReadLine → List ℕ → Type 0) → Printing
EachPlaced Prints s text = NumberedText (Prints s) 0 (lines_of s) text

-- the members of the object of a line that has not ended: how many of its bytes are known, and its place
abbrev pub unfinished_members : ℕ → ℕ → ℕ → List Member
unfinished_members count number offset = member (codes "bytes") (whole count) ∷ place_members number offset

-- what is printed at the end for these bytes of a line of this stream that has not ended: nothing if there are none
abbrev pub UnfinishedObject : List ℕ → List ℕ → List ℕ → Type 0
UnfinishedObject s [] text = text ≡ []
UnfinishedObject s (b ∷ bytes) text =
    (offset : ℕ) × BeginsAt s (length (lines_of s)) offset
    × (text ≡ line_object (codes "unfinished") (b ∷ bytes)
    (unfinished_members (length (b ∷ bytes)) (in_64_bits (length (lines_of s) + 1)) (in_64_bits offset))
    ++ (10 ∷ []))

-- what is printed at the end of a stream: of the bytes that follow its last line end as many as a line keeps
abbrev pub Ending : Printing
Ending s text = UnfinishedObject s (take kept_limit (rest_of s)) text
