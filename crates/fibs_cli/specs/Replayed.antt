-- What `fibs replay --json` prints for a script, and its status.
use Rattle.std.specs.Prelude.{◌<◌, ◌⊎◌, ℕ, List, length, Option}
use Rattle.std.specs.Io.KnownBytes.{Appends, Consumes, IsAtEnd, Keeps}
use Rattle.fibs_engine.specs.Reads.{LostAtMost}
use Rattle.fibs_engine.specs.Writing.{GainedFront}
use Rattle.fibs_replay.specs.Output.{IsFor, LogOf, ReplayText}
use Rattle.fibs_replay.specs.Scripts.{script_limit}
use Rattle.fibs_cli.specs.Endings.{ObjectsOf}

-- What a reader has left, and what a writer holds, is Some list if the prover knows its bytes, and else None: then the
-- next definitions say nothing.

-- a reader was read to its end, or past the limit of a script, and a writer gained the objects of all that
-- `fibs replay` prints for its bytes
abbrev pub ReplayedObjects : ℕ → Option (List ℕ) → Option (List ℕ) → Option (List ℕ) → Option (List ℕ) → Type 0
ReplayedObjects status left still held now = (script plain text : List ℕ) × Consumes left still script
    × (IsAtEnd still ⊎ (script_limit < length script)) × ReplayText script plain status × ObjectsOf plain text
    × Appends held now text

-- a read failed within the limit of a script, and nothing was written; or a write failed: the reader was read to its
-- end, or past the limit, and the writer gained a front of the objects of a text that is for what was read
abbrev pub ObjectsFailed : Option (List ℕ) → Option (List ℕ) → Option (List ℕ) → Option (List ℕ) → Type 0
ObjectsFailed left still held now =
    (LostAtMost script_limit left still × Keeps held now)
    ⊎ ((script plain text : List ℕ) × Consumes left still script × (IsAtEnd still ⊎ (script_limit < length script))
    × IsFor script plain × ObjectsOf plain text × GainedFront held now text)

-- memory ran out: nothing was written, or just the objects of the log so far, and the reader was read to its end
abbrev pub ObjectsInPart : Option (List ℕ) → Option (List ℕ) → Option (List ℕ) → Option (List ℕ) → Type 0
ObjectsInPart left still held now =
    Keeps held now
    ⊎ ((script plain text : List ℕ) × Consumes left still script × IsAtEnd still × LogOf script plain
    × ObjectsOf plain text × Appends held now text)
