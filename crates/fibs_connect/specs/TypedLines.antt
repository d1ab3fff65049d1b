-- The lines that a user types (the project's own). Each definition cuts a whole list.
use Rattle.std.specs.Prelude.{ℕ, List, [], Option, Some, None, take}
use Rattle.std.specs.Str.Lines.{strip_carriage_return}
use Rattle.fibs_fields.specs.Split.{before, after}

-- if a byte 10 ends a line, one byte 13 directly before it is dropped; the last line may lack its end, and is taken
-- as it is
abbrev pub without_end : List ℕ → Option (List ℕ) → List ℕ
without_end part None = part
without_end part (Some more) = strip_carriage_return part

-- the first line of what is typed: the empty line if nothing is typed
abbrev pub typed_line : List ℕ → List ℕ
typed_line typed = without_end (before 10 typed) (after 10 typed)

-- what is left, if anything is
abbrev pub rest_or_nothing : Option (List ℕ) → List ℕ
rest_or_nothing None = []
rest_or_nothing (Some more) = more

-- what is typed after the first line
abbrev pub after_typed_line : List ℕ → List ℕ
after_typed_line typed = rest_or_nothing (after 10 typed)

-- what is kept of a line: one byte more than it may have, which shows that it is too long
abbrev pub kept_typed : List ℕ → List ℕ
kept_typed line = take 4097 line
