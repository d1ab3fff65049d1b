-- Classes of bytes of which runs are found. No public contract rests on it.
use Rattle.std.specs.Prelude.{◌==◌, ◌&&◌, ℕ, Bool, not, nat_le}

-- a byte from the lowest to the highest, and not the one excepted
abbrev pub is_between : ℕ → ℕ → ℕ → ℕ → Bool
is_between low high except c = nat_le low c && nat_le c high && not (c == except)

-- any other byte
abbrev pub is_outside : ℕ → ℕ → ℕ → ℕ → Bool
is_outside low high except c = not (is_between low high except c)
