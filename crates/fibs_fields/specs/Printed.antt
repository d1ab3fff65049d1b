-- Printed text.
use Rattle.std.specs.Prelude.{ℕ, ◌≤◌}

-- a byte of printed text: no control byte, and none above 126
abbrev pub IsPrinted : ℕ → Type 0
IsPrinted byte = (32 ≤ byte) × (byte ≤ 126)
