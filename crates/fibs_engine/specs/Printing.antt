-- A printed line, and the answer of an engine that prints a text.
use Rattle.std.specs.Prelude.{◌≡◌, ◌++◌, ℕ, List, [], ◌∷◌, Option, Result, Ok, Err}
use Rattle.std.specs.Io.KnownBytes.{Appends}
use Rattle.fibs_engine.specs.Writing.{GainedFront}
use Rattle.fibs_engine.specs.declared.fault.EngineFault.{EngineFault}
use Rattle.fibs_engine.specs.declared.fault.EngineFault.TheVariants as fault

-- a printed line ends with a byte 10
abbrev pub line_bytes : List ℕ → List ℕ
line_bytes line = line ++ 10 ∷ []

-- a text was printed whole, with this status; or a device failed
abbrev pub Printed : ℕ → List ℕ → Result ℕ EngineFault → Option (List ℕ) → Option (List ℕ) → Type 0
Printed status text (Ok answered) held now = (answered ≡ status) × Appends held now text
Printed status text (Err why) held now = (why ≡ fault.Device) × GainedFront held now text
