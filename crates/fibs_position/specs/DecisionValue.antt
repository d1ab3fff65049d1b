-- What a user may decide, as values.
use Rattle.std.specs.Prelude.{List}
use Rattle.fibs_rules.specs.Hop.{Hop}
use Rattle.fibs_rules.specs.PlayValue.{IsPlay, hops_of}
use Rattle.fibs_position.specs.declared.decision.Decision.{Decision}
use Rattle.fibs_position.specs.declared.decision.Decision.TheVariants.{Roll, Double, Accept, Reject, Move, Resign}
use Rattle.fibs_position.specs.declared.stake.Stake.{Stake}

-- to roll, to double, to accept or to reject a double, to move, to resign the game for a stake
pub data DecisionValue : Type 0 where
  roll : DecisionValue
  double : DecisionValue
  accept : DecisionValue
  reject : DecisionValue
  move : List Hop → DecisionValue
  resign : Stake → DecisionValue

-- what a player can decide: a play has at most four steps, each from a place or the bar to a place or off
abbrev pub IsDecision : DecisionValue → Type 0
IsDecision roll = Unit {0}
IsDecision double = Unit {0}
IsDecision accept = Unit {0}
IsDecision reject = Unit {0}
IsDecision (move steps) = IsPlay steps
IsDecision (resign stake) = Unit {0}

-- ---- the decisions of the program as values

-- a decision, its steps and its stake
abbrev pub decision_of : Decision → DecisionValue
decision_of Roll = roll
decision_of Double = double
decision_of Accept = accept
decision_of Reject = reject
decision_of (Move play) = move (hops_of play)
decision_of (Resign stake) = resign stake
