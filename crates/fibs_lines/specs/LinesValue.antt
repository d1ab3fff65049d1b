-- What a `Lines` is seen as.
use Rattle.std.specs.Prelude.{◌≡◌, ℕ, ◌+◌, Bool, nat_lt, List, length, take, Option, false, ◌||◌, [], None, Some, if◌then◌else◌}
use Rattle.fibs_lines.specs.Lines.{kept_limit, rest_of, ReadLine, without_prompts}
use Rattle.fibs_lines.specs.Standing.{telnet_of}
use Rattle.fibs_lines.specs.declared.telnet.Telnet.{Telnet}
use Rattle.std.specs.Str.Lines.{strip_carriage_return}
use Rattle.fibs_lines.specs.declared.unfinished.Unfinished.{Unfinished}

-- what it keeps of its stream, and the line that it lent last
pub record LinesValue : Type 0 where
  -- how much of a telnet command has come
  pub telnet : Telnet
  -- the first bytes after the last line end
  pub head : List ℕ
  -- whether more bytes came after these
  pub over : Bool
  -- the line that the last call of `feed` lent, if that was the last call and it lent one
  pub line : Option ReadLine

-- the value is what the stream leaves: one byte more than a line's is kept, since that may be the CR before a line end.
-- Callers use this name, and never unfold it
unfoldable pub StandsAfter : LinesValue → List ℕ → Type 0
StandsAfter v s =
    (v.telnet ≡ telnet_of s)
    × (v.head ≡ take (kept_limit + 1) (rest_of s))
    × (v.over ≡ nat_lt (kept_limit + 1) (length (rest_of s)))

-- ---- the `Lines` of the program as this value

-- the line of these bytes, which goes on after them if it is over
abbrev pub limited : List ℕ → Bool → ReadLine
limited line over =
    record { bytes = without_prompts (take kept_limit line); cut = over || nat_lt kept_limit (length line) }

-- the same, but one CR at their end belongs to the line's end
abbrev pub kept_line : List ℕ → Bool → ReadLine
kept_line head over = limited (strip_carriage_return head) over

-- the bytes of a line that was lent stay where they are until the next call, and count as gone
abbrev pub lines_value : Unfinished → Bool → LinesValue
lines_value u lent =
    if lent then record { telnet = u.telnet; head = []; over = false; line = Some (kept_line u.head u.over) }
    else record { telnet = u.telnet; head = u.head; over = u.over; line = None }
