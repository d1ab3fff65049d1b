use Rattle.std.proofs.Common.{◌≡◌, ◌*◌, ◌≤◌, map, sum}
use Rattle.std.specs.List.{range_with_len}
use Rattle.fibs_position.specs.PositionValue.{position_value}
use Rattle.fibs_advice.specs.Changes.{pips_on}
use Rattle.fibs_advice.proofs.changes.pips.Given as goal

abbrev pub invariant-loop-place : goal.invariant-loop-place
invariant-loop-place l =
    (l.pips ≡ sum (map (pips_on (position_value l.position).standing.checkers) (range_with_len 0 l.place))) ×
    (l.pips ≤ 375 * l.place)
