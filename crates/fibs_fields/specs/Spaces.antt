-- Spaces at the end of a line.
use Rattle.std.specs.Prelude.{◌==◌, ◌-◌, ℕ, List, length, take}
use Rattle.std.specs.List.{suffix_len}

-- a line without the spaces at its end
abbrev pub without_spaces : List ℕ → List ℕ
without_spaces line = take (length line - suffix_len (λ c. c == 32) line) line
