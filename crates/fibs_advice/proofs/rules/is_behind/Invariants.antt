use Rattle.std.proofs.Common.{◌≡◌, ◌<◌, ℕ}
use Rattle.fibs_position.specs.PositionValue.{position_value}
use Rattle.fibs_advice.specs.BrokenRules.{own_after}
use Rattle.fibs_advice.proofs.rules.is_behind.Given as goal

-- none is on the places behind that were looked at
abbrev pub invariant-loop-behind : goal.invariant-loop-behind
invariant-loop-behind l = (k : ℕ) → k < l.behind → l.place < k
    → own_after (position_value l.position).standing.checkers l.steps k ≡ 0
