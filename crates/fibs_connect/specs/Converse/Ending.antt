-- How a conversation with the server ends.
use Rattle.std.specs.Prelude.{◌≡◌, ◌⊎◌, ℕ, List, Option, Some, None, Result, codes, IfOk, IfErr}
use Rattle.std.specs.Io.KnownBytes.{Appends, Keeps}
use Rattle.fibs_commands.specs.Logins.{login_fault}
use Rattle.fibs_commands.specs.PlainFaults.{plain_fault_number, plain_fault_name}
use Rattle.fibs_commands.specs.declared.plain.PlainFault.{PlainFault}
use Rattle.fibs_engine.specs.Printing.{line_bytes}
use Rattle.fibs_connect.specs.Lines.{reason_line}
use Rattle.fibs_connect.specs.TypedLines.{typed_line}
use Rattle.fibs_engine.specs.declared.fault.EngineFault.{EngineFault}
use Rattle.fibs_engine.specs.declared.fault.EngineFault.TheVariants as fault

-- the line that says what is wrong with a name or a password
abbrev pub login_fault_line : PlainFault → List ℕ
login_fault_line why = reason_line (codes "fault ") (plain_fault_number why) (plain_fault_name why)

-- it ends with the status 0 or 3, or a device failed. It never ends because memory ran out
abbrev pub EndsWell : Result ℕ EngineFault → Type 0
EndsWell result = IfOk result (λ status. (status ≡ 0) ⊎ (status ≡ 3)) × IfErr result (λ why. why ≡ fault.Device)

-- a login with a fault is refused on the second writer, with the status 3, and nothing goes to the first; after any
-- other login the status is 0, and nothing is written on the second writer
abbrev pub EndsBy : Option PlainFault → Result ℕ EngineFault → Type 0 → Option (List ℕ) → Option (List ℕ) → Type 0
EndsBy None result Nothing other then = IfOk result (λ status. status ≡ 0) × Keeps other then
EndsBy (Some why) result Nothing other then =
    IfOk result (λ status. (status ≡ 3) × Appends other then (line_bytes (login_fault_line why))) × Nothing

-- if the prover knows the reader's bytes: the first typed line is the password
abbrev pub ConversedOver : List ℕ → Option (List ℕ) → Result ℕ EngineFault → Type 0 → Option (List ℕ)
    → Option (List ℕ) → Type 0
ConversedOver name None result Nothing other then = Unit {0}
ConversedOver name (Some typed) result Nothing other then =
    EndsBy (login_fault name (typed_line typed)) result Nothing other then

-- how a conversation under this name ended: what its reader had left, and what its two writers hold, before and after
abbrev pub Conversed : List ℕ → Result ℕ EngineFault
    → Option (List ℕ) → Option (List ℕ) → Option (List ℕ) → Option (List ℕ) → Option (List ℕ) → Type 0
Conversed name result left held now other then =
    EndsWell result × ConversedOver name left result (Keeps held now) other then
