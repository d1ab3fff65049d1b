-- Bytes that can be printed as they are.
use Rattle.std.specs.Prelude.{ℕ, Bool, not, ◌&&◌, ◌==◌, nat_le}

-- a byte from 32 to 126 but `\`: printable ASCII, by which no escape begins
abbrev pub is_literal : ℕ → Bool
is_literal b = nat_le 32 b && nat_le b 126 && not (b == 92)
