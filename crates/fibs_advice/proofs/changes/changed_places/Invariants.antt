use Rattle.std.proofs.Common.{◌≡◌}
use Rattle.fibs_position.specs.PositionValue.{position_value}
use Rattle.fibs_advice.specs.Changes.{changed}
use Rattle.fibs_advice.proofs.changes.changed_places.Given as goal

-- the places so far that are changed
abbrev pub invariant-loop-far : goal.invariant-loop-far
invariant-loop-far l = l.places.items ≡ changed
    (position_value l.before).standing.checkers (position_value l.after).standing.checkers l.far
