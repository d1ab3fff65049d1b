-- What a writer gained of the bytes that it was to take.
use Rattle.std.specs.Prelude.{◌≡◌, ℕ, ⊤, List, ◌∷◌, ◌++◌, Option, Result, Ok, Err}
use Rattle.std.specs.Io.KnownBytes.{Appends}
use Rattle.fibs_engine.specs.declared.writing.Unwritten as declared

-- how far writing went: all was written; or a write failed, or took nothing, before all was written
pub data Progress : Type 0 where
  Whole : Progress
  Broken : Progress

-- how a write ended, by its result
abbrev pub progress_of : Result ⊤ declared.Unwritten → Progress
progress_of (Ok done) = Whole
progress_of (Err why) = Broken

-- What a writer holds is Some list if the prover knows its bytes, and else None: then the next two definitions say
-- nothing.

-- a writer gained a front of the bytes, and at least one of them is missing
abbrev pub GainedFront : Option (List ℕ) → Option (List ℕ) → List ℕ → Type 0
GainedFront held now bytes =
    (front rest : List ℕ) × (missing : ℕ) × (bytes ≡ front ++ (missing ∷ rest)) × Appends held now front

-- a writer gained all the bytes; or, if a write failed, a front of them
abbrev pub Wrote : Progress → Option (List ℕ) → Option (List ℕ) → List ℕ → Type 0
Wrote Whole held now bytes = Appends held now bytes
Wrote Broken held now bytes = GainedFront held now bytes
