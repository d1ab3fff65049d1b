-- Decisions as C has them.
use Rattle.std.specs.Prelude.{◌≡◌, ℕ, ◌≤◌, Bool, true, ◌&&◌, List, [], ◌∷◌, length, take, drop, map, cond, nat_eq, nat_le, Option, None, Some, option_map, if◌then◌else◌}
use Rattle.std.specs.List.{list_all}
use Rattle.fibs_position.specs.DecisionValue.{DecisionValue, roll, double, accept, reject, move, resign}
use Rattle.fibs_position.specs.declared.stake.Stake.{Stake}
use Rattle.fibs_position.specs.declared.stake.Stake.TheVariants.{Normal, Gammon, Backgammon}
use Rattle.fibs_rules.specs.Hop.{Hop}
use Rattle.fibs_c.specs.declared.records.decisions.DecisionRecord.{DecisionRecord}
use Rattle.fibs_c.specs.declared.records.decisions.PlayStep.{PlayStep}

-- a step
abbrev pub hop_in : PlayStep → Hop
hop_in s = record { source = s.source; target = s.target }

-- whether it goes from a place 1 to 25 to a place 0 to 24
abbrev pub is_step : PlayStep → Bool
is_step s = nat_le 1 s.source && (nat_le s.source 25 && nat_le s.target 24)

-- at most four such steps, as a play
abbrev pub play_in : ℕ → List PlayStep → Option (List Hop)
play_in count steps =
    cond (nat_le count 4 && list_all is_step (take count steps)) (Some (map hop_in (take count steps))) None

-- the decision of a record: 1 roll, 2 double, 3 accept, 4 reject, 5 move, which takes steps, 6 to 8 resign
abbrev pub decision_in : DecisionRecord → Option DecisionValue
decision_in r =
    if nat_eq r.kind 1 then Some roll else if nat_eq r.kind 2 then Some double else if nat_eq r.kind 3 then Some accept
    else if nat_eq r.kind 4 then Some reject
    else if nat_eq r.kind 5 then option_map move (play_in r.count r.steps)
    else if nat_eq r.kind 6 then Some (resign Normal) else if nat_eq r.kind 7 then Some (resign Gammon)
    else if nat_eq r.kind 8 then Some (resign Backgammon) else None

-- the steps that are given
abbrev pub hops_in : DecisionRecord → List Hop
hops_in r = map hop_in (take r.count r.steps)

-- the number of a resignation
abbrev pub resigning : Stake → ℕ
resigning Normal = 6
resigning Gammon = 7
resigning Backgammon = 8

-- a step of zeros, and as many as a record has
abbrev pub zero_step : PlayStep
zero_step = record { source = 0; target = 0 }

-- four steps of zeros
abbrev pub zero_steps : List PlayStep
zero_steps = zero_step ∷ zero_step ∷ zero_step ∷ zero_step ∷ []

-- what follows the steps that are given is zeros
abbrev pub RestIsZero : DecisionRecord → Type 0
RestIsZero r = drop r.count r.steps ≡ drop r.count zero_steps

-- a kind that has no steps is given
abbrev pub IsKind : DecisionRecord → ℕ → Type 0
IsKind r kind = (r.kind ≡ kind) × (r.count ≡ 0) × RestIsZero r

-- a move is given, with its steps, at most four
pub record IsMove (r : DecisionRecord) (steps : List Hop) : Type 0 where
  pub kind : r.kind ≡ 5
  pub few : r.count ≤ 4
  pub count : r.count ≡ length steps
  pub hops : hops_in r ≡ steps
  pub rest : RestIsZero r

-- all that is given of a move, and what is given of these steps
abbrev pub move_in : DecisionRecord → ℕ × ℕ × Bool × List Hop
move_in r = (r.kind, r.count, nat_le r.count 4, hops_in r)

-- the parts of a record that gives a move
abbrev pub as_move : List Hop → ℕ × ℕ × Bool × List Hop
as_move steps = (5, length steps, true, steps)

-- this decision is given
abbrev pub IsDecisionAs : DecisionRecord → DecisionValue → Type 0
IsDecisionAs r roll = IsKind r 1
IsDecisionAs r double = IsKind r 2
IsDecisionAs r accept = IsKind r 3
IsDecisionAs r reject = IsKind r 4
IsDecisionAs r (move steps) = IsMove r steps
IsDecisionAs r (resign stake) = IsKind r (resigning stake)

-- this one, or none
abbrev pub IsMaybeDecision : DecisionRecord → Option DecisionValue → Type 0
IsMaybeDecision r None = IsKind r 0
IsMaybeDecision r (Some d) = IsDecisionAs r d
