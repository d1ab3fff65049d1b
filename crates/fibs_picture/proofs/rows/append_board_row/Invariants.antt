use Rattle.std.proofs.Common.{◌≡◌, ◌++◌}
use Rattle.std.specs.List.{flat_map, range_with_len}
use Rattle.fibs_position.specs.PositionValue.{position_value}
use Rattle.fibs_picture.specs.Cell.{drawn_column}
use Rattle.fibs_picture.proofs.rows.append_board_row.Given as goal

-- the columns so far are written
abbrev pub invariant-loop-column : goal.invariant-loop-column
invariant-loop-column l =
    l.text.items ≡ l.initial.text.items
    ++ flat_map (drawn_column l.look (position_value l.position) l.arrivals l.drawn) (range_with_len 0 l.column)
