-- What the function for C does with a line that the user sends himself.
use Rattle.std.specs.Prelude.{◌≡◌, ◌≢◌, ℕ, ◌+◌, ◌||◌, List, Option, None, Some, not, if◌then◌else◌}
use Rattle.fibs_commands.specs.PlainFaults.{plain_fault_number}
use Rattle.fibs_commands.specs.declared.plain.PlainFault.{PlainFault}
use Rattle.fibs_session.specs.Calls.Standing.{ClientValue, StandsAfter}
use Rattle.fibs_session.specs.History.Machine.{Talk, is_online, on_wire, shown_now}
use Rattle.fibs_session.specs.OwnLines.{decides}
use Rattle.fibs_session.specs.Typing.{typed_now, would_take}
use Rattle.fibs_c.specs.Records.Wires.{Holds, IsEmptied}
use Rattle.fibs_c.specs.declared.records.wire.WireRecord.{WireRecord}

-- why a client does not let a line go as it is, or 0: no connection is open, or the client would take the line
-- itself, or the line decides in the game
abbrev pub own_refusal : Talk → List ℕ → ℕ
own_refusal t line =
    if not (is_online t) then 2 else if would_take t (typed_now t line) || decides (shown_now t) line then 512 else 0

-- why a client does not let a line go of which its promise says nothing: no connection is open
abbrev pub unguarded_refusal : Talk → ℕ
unguarded_refusal t = if not (is_online t) then 2 else 0

-- just the line with its line end is on the wire, or nothing, for this reason
pub record SendsOwn (why : Talk → ℕ) (c : ClientValue) (line : List ℕ) (wire wire' : WireRecord) (status : ℕ)
    : Type 0 where
  pub refusal : (t : Talk) → StandsAfter c t → status ≡ why t
  pub sent : status ≡ 0 → Holds wire wire' (on_wire line)
  pub kept : status ≢ 0 → IsEmptied wire wire'

-- and the client is as it was; what is wrong with the text of the line comes first
abbrev pub IsOwnSent : Option PlainFault → (Talk → ℕ) → List ℕ → Option ClientValue → Option ClientValue → WireRecord
    → WireRecord → ℕ → Type 0
IsOwnSent (Some fault) why line old new wire wire' status =
    (status ≡ 100 + plain_fault_number fault) × (new ≡ old) × IsEmptied wire wire'
IsOwnSent None why line None new wire wire' status = (status ≡ 501) × (new ≡ None) × IsEmptied wire wire'
IsOwnSent None why line (Some c) new wire wire' status = (new ≡ Some c) × SendsOwn why c line wire wire' status
