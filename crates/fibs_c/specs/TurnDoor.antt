-- What C gets of a turn that is played step by step.
use Rattle.std.specs.Prelude.{◌≡◌, ◌↔◌, true, ◌⊎◌, ◌==◌, ◌+◌, ◌-◌, ◌≤◌, ℕ, nat_lt, List, [], ◌∷◌, ◌++◌, length, take, map, All, Contains, Option, None, Some, if◌then◌else◌}
use Rattle.fibs_fields.specs.Board.{BoardFields}
use Rattle.fibs_position.specs.Allowed.{IsAllowed, refusal_of}
use Rattle.fibs_position.specs.BoardEffect.{Effect}
use Rattle.fibs_position.specs.DecisionValue.{DecisionValue, move}
use Rattle.fibs_position.specs.GamePart.{same_game}
use Rattle.fibs_position.specs.PlaysOf.{PlaysIn}
use Rattle.fibs_position.specs.PositionValue.{position_of}
use Rattle.fibs_rules.specs.Hop.{Hop}
use Rattle.fibs_c.specs.EffectDoor.{IsGoodIn}
use Rattle.fibs_c.specs.PositionDoor.{IsNoPosition}
use Rattle.fibs_c.specs.Records.Decisions.{IsMove, hop_in}
use Rattle.fibs_c.specs.Records.Statuses.{allowed_status}
use Rattle.fibs_c.specs.declared.records.decisions.DecisionRecord.{DecisionRecord}
use Rattle.fibs_c.specs.declared.turn.NextRecord.{NextRecord}

-- the player may make a move that begins with these steps
abbrev pub GoesOn : BoardFields → List Hop → Type 0
GoesOn b steps = (rest : List Hop) × IsAllowed b (move (steps ++ rest))

-- the same of a move that has so many steps more
abbrev pub GoesOnBy : ℕ → BoardFields → List Hop → Type 0
GoesOnBy left b steps = (rest : List Hop) × (length rest ≡ left) × IsAllowed b (move (steps ++ rest))

-- a step may follow those that were made
abbrev pub IsNext : BoardFields → List Hop → Hop → Type 0
IsNext b made step = GoesOn b (made ++ step ∷ [])

-- the same if so many steps more follow it
abbrev pub IsNextBy : ℕ → BoardFields → List Hop → Hop → Type 0
IsNextBy left b made step = GoesOnBy left b (made ++ step ∷ [])

-- the server would carry a play out
abbrev pub IsCarriedOut : BoardFields → List Hop → Type 0
IsCarriedOut b steps = (after : BoardFields) × Effect b (move steps) (1 ∷ 1 ∷ []) after

-- the step from a place by a die, if the die is shown
abbrev pub step_by : ℕ → ℕ → Option Hop
step_by source die = if die == 0 then None else Some (record { source = source; target = source - die })

-- the steps that are tried, by number: from each place by the one die, then by the other if it is another
abbrev pub step_tried : ℕ → ℕ → ℕ → Option Hop
step_tried first second n =
    if nat_lt n 25 then step_by (n + 1) first else if first == second then None else step_by (n - 24) second

-- the steps that C gets
abbrev pub next_in : NextRecord → List Hop
next_in r = map hop_in (take r.count r.steps)

-- the steps of a decision to move
abbrev pub steps_of : Option DecisionValue → Option (List Hop)
steps_of (Some (move steps)) = Some steps
steps_of d = None

-- exactly the steps that may follow are told
pub record TellsNext (b : BoardFields) (made : List Hop) (told : NextRecord) : Type 0 where
  pub few : told.count ≤ 50
  pub each : (step : Hop) → Contains (next_in told) step ↔ IsNext b made step

-- a move begins with the steps made, and the next ones are told; or none does, and the status is why they are no move
abbrev pub IsTurnTold : BoardFields → List Hop → NextRecord → NextRecord → ℕ → Type 0
IsTurnTold b made told told' status =
    (GoesOn b made × (status ≡ 0) × TellsNext b made told')
    ⊎ ((¬ GoesOn b made) × (status ≡ allowed_status (refusal_of (position_of b) (move made))) × (told' ≡ told))

-- the same on the board of a line
pub record TellsTurn (line : List ℕ) (made : List Hop) (told told' : NextRecord) (status : ℕ) : Type 0 where
  pub board : BoardFields
  pub is : IsGoodIn line board
  pub turn : IsTurnTold board made told told' status

-- or the decision is no move, or the line has no position, and nothing is written
abbrev pub AreNextTold : List ℕ → Option (List Hop) → NextRecord → NextRecord → ℕ → Type 0
AreNextTold line None told told' status = (status ≡ 504) × (told' ≡ told)
AreNextTold line (Some made) told told' status =
    (IsNoPosition line status × (told' ≡ told)) ⊎ TellsTurn line made told told' status

-- a play leads to a board that does not differ from this one
abbrev pub LeadsTo : BoardFields → List Hop → BoardFields → Type 0
LeadsTo b steps after =
    (led : BoardFields) × Effect b (move steps) (1 ∷ 1 ∷ []) led × (same_game led after ≡ true)

-- a play of the list leads to this board, and is told; or none does, and nothing is written
pub record FindsPlay (b after : BoardFields) (told told' : DecisionRecord) (status : ℕ) : Type 0 where
  pub plays : List (List Hop)
  pub are : PlaysIn (position_of b) plays
  pub told_or_none :
      ((status ≡ 0) × ((steps : List Hop) × Contains plays steps × LeadsTo b steps after × IsMove told' steps))
      ⊎ ((status ≡ 510) × All (λ steps. ¬ LeadsTo b steps after) plays × (told' ≡ told))

-- the same, or memory ran out, and nothing is written
abbrev pub IsLeadingTold : BoardFields → BoardFields → DecisionRecord → DecisionRecord → ℕ → Type 0
IsLeadingTold b after told told' status =
    ((status ≡ 401) × (told' ≡ told)) ⊎ FindsPlay b after told told' status

-- the steps made are a move, and the play of the list that leads to the same board is told; or they are none, the
-- status says why, and nothing is written
abbrev pub IsListedTold : BoardFields → List Hop → DecisionRecord → DecisionRecord → ℕ → Type 0
IsListedTold b made told told' status =
    ((¬ IsAllowed b (move made)) × (status ≡ allowed_status (refusal_of (position_of b) (move made))) × (told' ≡ told))
    ⊎ ((after : BoardFields) × Effect b (move made) (1 ∷ 1 ∷ []) after × IsLeadingTold b after told told' status)

-- the same on the board of a line
pub record TellsPlay (line : List ℕ) (made : List Hop) (told told' : DecisionRecord) (status : ℕ) : Type 0 where
  pub board : BoardFields
  pub is : IsGoodIn line board
  pub listed : IsListedTold board made told told' status

-- or the decision is no move, or the line has no position, and nothing is written
abbrev pub IsPlayTold : List ℕ → Option (List Hop) → DecisionRecord → DecisionRecord → ℕ → Type 0
IsPlayTold line None told told' status = (status ≡ 504) × (told' ≡ told)
IsPlayTold line (Some made) told told' status =
    (IsNoPosition line status × (told' ≡ told)) ⊎ TellsPlay line made told told' status
