use Rattle.fibs_position.specs.PositionValue.{position_value}
use Rattle.fibs_advice.specs.BrokenRules.{KeepsUntil}
use Rattle.fibs_advice.proofs.rules.broken_rule.Given as goal

-- no step before breaks a rule
abbrev pub invariant-loop-place : goal.invariant-loop-place
invariant-loop-place l =
    KeepsUntil (position_value l.position).standing.checkers l.dice.0 l.dice.1 l.steps l.place
