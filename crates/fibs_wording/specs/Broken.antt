-- Rows that are broken at spaces (the project's own).
use Rattle.std.specs.Prelude.{ℕ, ◌==◌, if◌then◌else◌}

-- a line end counts as a space
abbrev pub spaced : ℕ → ℕ
spaced byte = if byte == 10 then 32 else byte
