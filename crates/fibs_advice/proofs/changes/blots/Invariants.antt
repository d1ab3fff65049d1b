use Rattle.std.proofs.Common.{◌≡◌}
use Rattle.fibs_position.specs.PositionValue.{position_value}
use Rattle.fibs_advice.specs.Changes.{blots}
use Rattle.fibs_advice.proofs.changes.blots.Given as goal

-- the places so far on which a checker stands alone
abbrev pub invariant-loop-nearer : goal.invariant-loop-nearer
invariant-loop-nearer l = l.places.items ≡ blots (position_value l.position).standing.checkers l.nearer
