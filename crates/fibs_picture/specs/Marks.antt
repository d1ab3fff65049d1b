-- Marks: what is written round a byte of the picture, and what the eye sees of it.
use Rattle.std.specs.Prelude.{◌-◌, ◌++◌, ◌==◌, ◌&&◌, ℕ, Bool, true, false, List, [], ◌∷◌, nat_lt, nat_le, if◌then◌else◌}
use Rattle.fibs_picture.specs.declared.mark.Mark.{Mark}
use Rattle.fibs_picture.specs.declared.mark.Mark.TheVariants as M

-- what stands at a height has come, if so many of the checkers there have: the innermost ones that are seen
abbrev pub is_arrived : ℕ → ℕ → ℕ → Bool
is_arrived come there height = let seen = if nat_lt there 5 then there else 5 in
    nat_le height seen && nat_lt (seen - height) come

-- bold, and in a colour
abbrev pub before : Mark → List ℕ
before M.Plain = []
before M.Own = 27 ∷ 91 ∷ 49 ∷ 109 ∷ []
before M.Arrived = 27 ∷ 91 ∷ 51 ∷ 53 ∷ 109 ∷ []

-- what ends it
abbrev pub after : Mark → List ℕ
after M.Plain = []
after M.Own = 27 ∷ 91 ∷ 48 ∷ 109 ∷ []
after M.Arrived = 27 ∷ 91 ∷ 48 ∷ 109 ∷ []

-- a byte with its mark
unfoldable pub marked : Mark → ℕ → List ℕ
marked mark byte = (before mark ++ byte ∷ []) ++ after mark

-- what the eye sees of a text: nothing of a mark, which is from the byte 27 to the letter m
abbrev pub seen_from : Bool → List ℕ → List ℕ
seen_from inside [] = []
seen_from true (x ∷ xs) = if x == 109 then seen_from false xs else seen_from true xs
seen_from false (x ∷ xs) = if x == 27 then seen_from true xs else x ∷ seen_from false xs

-- of a whole text
unfoldable pub seen : List ℕ → List ℕ
seen text = seen_from false text
