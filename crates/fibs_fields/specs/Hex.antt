-- How a byte that is not shown as it is is written.
use Rattle.std.specs.Prelude.{◌/◌, ◌%◌, ℕ, List, [], ◌∷◌, codes, slice_index}

-- the hexadecimal digits
abbrev pub hex_digits : List ℕ
hex_digits = codes "0123456789abcdef"

-- `\x` and the two hexadecimal digits of the byte
abbrev pub hex_escape : ℕ → List ℕ
hex_escape b = 92 ∷ 120 ∷ slice_index hex_digits (b / 16) ∷ slice_index hex_digits (b % 16) ∷ []
