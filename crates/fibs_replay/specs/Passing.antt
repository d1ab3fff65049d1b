-- How a text that is written in portions passes to its writer. No public contract rests on it.
use Rattle.std.specs.Prelude.{◌≡◌, ◌≤◌, ◌+◌, ℕ, List, ◌++◌, length, Option}
use Rattle.std.specs.Io.KnownBytes.{Appends}
use Rattle.fibs_engine.specs.Writing.{GainedFront, Progress, Whole, Broken}
use Rattle.fibs_replay.specs.Limits.{write_len}

-- a writer gained a front of the text, and the rest of it is left
abbrev pub Passed : Option (List ℕ) → Option (List ℕ) → List ℕ → List ℕ → Type 0
Passed held now text left = (front : List ℕ) × Appends held now front × (text ≡ front ++ left)

-- a portion with this text has become one with room for so many bytes more; or, if a write failed, the writer gained
-- a front of the text, and at least one byte of it is missing
abbrev pub MadeRoom : Progress → ℕ → Option (List ℕ) → Option (List ℕ) → List ℕ → List ℕ → Type 0
MadeRoom Whole room held now text left = Passed held now text left × (length left + room ≤ write_len)
MadeRoom Broken room held now text left = GainedFront held now text
