-- How much was read from a reader whose bytes are known.
use Rattle.std.specs.Prelude.{◌≤◌, ◌*◌, ℕ, List, length, Option}
use Rattle.std.specs.Io.KnownBytes.{Consumes}

-- a turn of the client reads at most 4096 times, at most 1024 bytes at once
abbrev pub turn_limit : ℕ
turn_limit = 4096 * 1024

-- a reader lost at most so many bytes
abbrev pub LostAtMost : ℕ → Option (List ℕ) → Option (List ℕ) → Type 0
LostAtMost most left still_left = (s : List ℕ) × (length s ≤ most) × Consumes left still_left s

-- a reader lost at least so many bytes
abbrev pub LostAtLeast : ℕ → Option (List ℕ) → Option (List ℕ) → Type 0
LostAtLeast least left still_left = (s : List ℕ) × (least ≤ length s) × Consumes left still_left s
