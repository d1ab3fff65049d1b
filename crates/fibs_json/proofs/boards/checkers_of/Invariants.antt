use Rattle.std.proofs.Common.{◌≡◌, length, map}
use Rattle.std.specs.List.{range_with_len}
use Rattle.fibs_position.specs.PositionValue.{position_value}
use Rattle.fibs_json.specs.Boards.{own_numbered}
use Rattle.fibs_json.proofs.boards.checkers_of.Given as goal

abbrev pub invariant-loop-place : goal.invariant-loop-place
invariant-loop-place l =
    (l.checkers.items
    ≡ map (own_numbered l.side (position_value l.position).standing.checkers) (range_with_len 0 l.place))
    × (length l.checkers.items ≡ l.place)
