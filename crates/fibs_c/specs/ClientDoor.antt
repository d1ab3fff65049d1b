-- What the functions for C do with a client.
use Rattle.std.specs.Prelude.{◌≡◌, ◌≢◌, ℕ, ◌+◌, ◌≤◌, List, [], Option, None, Some, take, nat_le, if◌then◌else◌}
use Rattle.fibs_lines.specs.Lines.{kept_limit, rest_of}
use Rattle.fibs_commands.specs.Logins.{login_fault, login_text}
use Rattle.fibs_commands.specs.PlainCommands.{PlainValue}
use Rattle.fibs_commands.specs.PlainFaults.{plain_fault_number}
use Rattle.fibs_commands.specs.declared.plain.PlainFault.{PlainFault}
use Rattle.fibs_fields.specs.Board.{BoardFields, spelling}
use Rattle.fibs_position.specs.DecisionValue.{DecisionValue, roll}
use Rattle.fibs_session.specs.Calls.Standing.{ClientValue, StandsAfter}
use Rattle.fibs_session.specs.History.Words.{Ask}
use Rattle.fibs_session.specs.History.Machine.{Talk, InputValue, start, step, Open, Lose, Click, PlainInput, wire_of, open_refusal, unconfirmed_now, answer_now, plain_refusal, shown_now}
use Rattle.fibs_c.specs.Records.Asks.{IsAskAs, IsMaybeAsk}
use Rattle.fibs_c.specs.Records.BoardOf.{IsBoardAs}
use Rattle.fibs_c.specs.Records.Statuses.{refusal_status, plain_status}
use Rattle.fibs_c.specs.Records.Texts.{HandsOut}
use Rattle.fibs_c.specs.Records.Wires.{Holds, IsEmptied}
use Rattle.fibs_c.specs.declared.records.boards.BoardRecord.{BoardRecord}
use Rattle.fibs_c.specs.declared.records.outstanding.OutstandingRecord.{OutstandingRecord}
use Rattle.fibs_c.specs.declared.records.wire.WireRecord.{WireRecord}

-- a client of that login was made; or the first of these reasons against it: one is held, the name or the password is
-- wrong, memory ran out
abbrev pub IsNewFor : Option PlainFault → Option ClientValue → List ℕ → List ℕ → ℕ → Type 0
IsNewFor (Some fault) new name password status = (status ≡ 100 + plain_fault_number fault) × (new ≡ None)
IsNewFor None None name password status = status ≡ 401
IsNewFor None (Some c) name password status = (status ≡ 0) × StandsAfter c (start (login_text name password))

-- the handle gets a client, or has one already
abbrev pub IsNewClient : Option ClientValue → Option ClientValue → List ℕ → List ℕ → ℕ → Type 0
IsNewClient (Some c) new name password status = (status ≡ 502) × (new ≡ Some c)
IsNewClient None new name password status = IsNewFor (login_fault name password) new name password status

-- for each history by which the client was reached, that history with the input reaches it now, and the wire holds just
-- the bytes of the commands that the machine hands out; what follows them there is as it was
pub record DoesOnWire (old new : ClientValue) (i : InputValue) (wire wire' : WireRecord) : Type 0 where
  pub stands : (t : Talk) → StandsAfter old t → StandsAfter new (step t i).talk
  pub hands : (t : Talk) → StandsAfter old t → Holds wire wire' (wire_of (step t i).send)

-- the same for an input at which the machine hands out nothing
pub record DoesUnsaid (old new : ClientValue) (i : InputValue) : Type 0 where
  pub stands : (t : Talk) → StandsAfter old t → StandsAfter new (step t i).talk
  pub hands_none : (t : Talk) → StandsAfter old t → [] ≡ wire_of (step t i).send

-- what `Client::open` does, and its refusal
pub record Opens (old new : ClientValue) (wire wire' : WireRecord) (status : ℕ) : Type 0 where
  pub does : DoesOnWire old new Open wire wire'
  pub refusal : (t : Talk) → StandsAfter old t → status ≡ refusal_status (open_refusal t)
  pub kept : status ≢ 0 → (new ≡ old) × IsEmptied wire wire'

-- a connection is opened, if the handle has a client
abbrev pub IsOpened : Option ClientValue → Option ClientValue → WireRecord → WireRecord → ℕ → Type 0
IsOpened None new wire wire' status = (status ≡ 501) × (new ≡ None) × IsEmptied wire wire'
IsOpened (Some c) None wire wire' status = ⊥
IsOpened (Some c) (Some d) wire wire' status = Opens c d wire wire' status

-- what `Client::decide` does, and its refusal
pub record Decides (old new : ClientValue) (d : DecisionValue) (wire wire' : WireRecord) (status : ℕ) : Type 0 where
  pub does : DoesOnWire old new (Click d) wire wire'
  pub refusal : (t : Talk) → StandsAfter old t → status ≡ refusal_status (answer_now t d)
  pub kept : status ≢ 0 → (new ≡ old) × IsEmptied wire wire'

-- a decision is made, if the record says one and the handle has a client
abbrev pub IsDecided : Option DecisionValue → Option ClientValue → Option ClientValue → WireRecord → WireRecord → ℕ
    → Type 0
IsDecided None old new wire wire' status = (status ≡ 504) × (new ≡ old) × IsEmptied wire wire'
IsDecided (Some d) None new wire wire' status = (status ≡ 501) × (new ≡ None) × IsEmptied wire wire'
IsDecided (Some d) (Some c) None wire wire' status = ⊥
IsDecided (Some d) (Some c) (Some c') wire wire' status = Decides c c' d wire wire' status

-- what `Client::plain` does, and its refusal
pub record SendsPlain (old new : ClientValue) (p : PlainValue) (wire wire' : WireRecord) (status : ℕ) : Type 0 where
  pub does : DoesOnWire old new (PlainInput p) wire wire'
  pub refusal : (t : Talk) → StandsAfter old t → status ≡ plain_status (plain_refusal t p)
  pub kept : status ≢ 0 → (new ≡ old) × IsEmptied wire wire'

-- a plain command is sent, if the number is that of one and the handle has a client
abbrev pub IsPlainSent : Option PlainValue → Option ClientValue → Option ClientValue → WireRecord → WireRecord → ℕ
    → Type 0
IsPlainSent None old new wire wire' status = (status ≡ 505) × (new ≡ old) × IsEmptied wire wire'
IsPlainSent (Some p) None new wire wire' status = (status ≡ 501) × (new ≡ None) × IsEmptied wire wire'
IsPlainSent (Some p) (Some c) None wire wire' status = ⊥
IsPlainSent (Some p) (Some c) (Some d) wire wire' status = SendsPlain c d p wire wire' status

-- what `Client::lose` does, and which decision waited
pub record Loses (old new : ClientValue) (waited waited' : OutstandingRecord) (status : ℕ) : Type 0 where
  pub done : status ≡ 0
  pub does : DoesUnsaid old new Lose
  pub waited_is : (t : Talk) → StandsAfter old t → IsMaybeAsk waited waited' (unconfirmed_now t)

-- the connection is lost, if the handle has a client
abbrev pub IsLost : Option ClientValue → Option ClientValue → OutstandingRecord → OutstandingRecord → ℕ → Type 0
IsLost None new waited waited' status = (status ≡ 501) × (new ≡ None) × (waited' ≡ waited)
IsLost (Some c) None waited waited' status = ⊥
IsLost (Some c) (Some d) waited waited' status = Loses c d waited waited' status

-- the board that is shown; or no board is shown, and nothing is written
abbrev pub IsShownBoard : Option BoardFields → BoardRecord → BoardRecord → ℕ → Type 0
IsShownBoard None r r' status = (status ≡ 5) × (r' ≡ r)
IsShownBoard (Some b) r r' status = (status ≡ 0) × IsBoardAs r r' b

-- and the client is as it was
abbrev pub IsShown : Option ClientValue → Option ClientValue → BoardRecord → BoardRecord → ℕ → Type 0
IsShown None new r r' status = (status ≡ 501) × (new ≡ None) × (r' ≡ r)
IsShown (Some c) new r r' status =
    (new ≡ Some c) × ((t : Talk) → StandsAfter c t → IsShownBoard (shown_now t) r r' status)

-- the decision that waits; or no decision waits, and nothing is written
abbrev pub IsWaitingAsk : Option Ask → OutstandingRecord → OutstandingRecord → ℕ → Type 0
IsWaitingAsk None out out' status = (status ≡ 507) × (out' ≡ out)
IsWaitingAsk (Some a) out out' status = (status ≡ 0) × IsAskAs out out' a

-- and the client is as it was
abbrev pub IsWaiting : Option ClientValue → Option ClientValue → OutstandingRecord → OutstandingRecord → ℕ → Type 0
IsWaiting None new out out' status = (status ≡ 501) × (new ≡ None) × (out' ≡ out)
IsWaiting (Some c) new out out' status =
    (new ≡ Some c) × ((t : Talk) → StandsAfter c t → IsWaitingAsk (unconfirmed_now t) out out' status)

-- what follows the last line end of the connection is handed out; and the client is as it was
abbrev pub IsClientUnfinished : Option ClientValue → Option ClientValue → List ℕ → List ℕ → ℕ → ℕ → ℕ → Type 0
IsClientUnfinished None new text text' len len' status =
    (status ≡ 501) × (new ≡ None) × (text' ≡ text) × (len' ≡ len)
IsClientUnfinished (Some c) new text text' len len' status =
    (new ≡ Some c)
    × ((t : Talk) → StandsAfter c t → HandsOut (take kept_limit (rest_of t.stream)) text text' len' status)

-- of the refusals of a decision the first two that it can meet: no connection is open, or message 1 or 2 has not come
abbrev pub ready_status : ℕ → ℕ
ready_status status = if nat_le status 3 then status else 0

-- the client is ready, or why not; and it is as it was
abbrev pub IsReady : Option ClientValue → Option ClientValue → ℕ → Type 0
IsReady None new status = (status ≡ 501) × (new ≡ None)
IsReady (Some c) new status =
    (new ≡ Some c)
    × ((t : Talk) → StandsAfter c t → status ≡ ready_status (refusal_status (answer_now t roll)))

-- the board that is shown is printed; or no board is shown, and nothing is written
abbrev pub IsShownPrinted : Option BoardFields → List ℕ → List ℕ → ℕ → ℕ → ℕ → Type 0
IsShownPrinted None old new len len' status = (status ≡ 5) × (new ≡ old) × (len' ≡ len)
IsShownPrinted (Some b) old new len len' status = HandsOut (spelling b) old new len' status × (len' ≤ 329)

-- and the client is as it was
abbrev pub IsShownLine : Option ClientValue → Option ClientValue → List ℕ → List ℕ → ℕ → ℕ → ℕ → Type 0
IsShownLine None new text text' len len' status = (status ≡ 501) × (new ≡ None) × (text' ≡ text) × (len' ≡ len)
IsShownLine (Some c) new text text' len len' status =
    (new ≡ Some c) × ((t : Talk) → StandsAfter c t → IsShownPrinted (shown_now t) text text' len len' status)
