-- What the functions for C do with a standing order to roll.
use Rattle.std.specs.Prelude.{◌≡◌, ◌≢◌, ℕ, ◌≤◌, Option, None, Some}
use Rattle.fibs_session.specs.Calls.Standing.{ClientValue, StandsAfter}
use Rattle.fibs_session.specs.History.Machine.{Talk, InputValue, order_refusal, withdraw_refusal, ordered_now}
use Rattle.fibs_game.specs.declared.refusal.Refusal.{Refusal}
use Rattle.fibs_c.specs.ClientDoor.{DoesUnsaid}
use Rattle.fibs_c.specs.Records.Statuses.{refusal_status}
use Rattle.fibs_c.specs.Records.Texts.{flag_of}

abbrev pub order_refusal_now : Talk → Option Refusal
order_refusal_now t = order_refusal t.log

abbrev pub withdraw_refusal_now : Talk → Option Refusal
withdraw_refusal_now t = withdraw_refusal t.log

-- what a call does that hands out nothing, and its refusal
pub record DoesSilently (i : InputValue) (refusal : Talk → Option Refusal) (old new : ClientValue) (status : ℕ)
    : Type 0 where
  pub does : DoesUnsaid old new i
  pub refused : (t : Talk) → StandsAfter old t → status ≡ refusal_status (refusal t)
  pub kept : status ≢ 0 → new ≡ old

-- an order is given or withdrawn, if the handle has a client
abbrev pub IsDone : InputValue → (Talk → Option Refusal) → Option ClientValue → Option ClientValue → ℕ → Type 0
IsDone i refusal None new status = (status ≡ 501) × (new ≡ None)
IsDone i refusal (Some c) None status = ⊥
IsDone i refusal (Some c) (Some d) status = DoesSilently i refusal c d status

-- whether a standing order is in force, and the client is as it was
abbrev pub IsOrderTold : Option ClientValue → Option ClientValue → ℕ → ℕ → ℕ → Type 0
IsOrderTold None new ordered ordered' status = (status ≡ 501) × (new ≡ None) × (ordered' ≡ ordered)
IsOrderTold (Some c) new ordered ordered' status =
    (new ≡ Some c) × (status ≡ 0) × (ordered' ≤ 1) × ((t : Talk) → StandsAfter c t → ordered' ≡ flag_of (ordered_now t))
