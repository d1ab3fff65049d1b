use Rattle.std.proofs.Common.{◌≡◌, ◌++◌}
use Rattle.std.specs.List.{flat_map, range_with_len}
use Rattle.fibs_fields.specs.StoredBoard.{fields_of}
use Rattle.fibs_position.specs.PositionValue.{position_value}
use Rattle.fibs_picture.specs.Whole.{written_at}
use Rattle.fibs_picture.proofs.picture.append_rows.Given as goal

-- the rows so far are written
abbrev pub invariant-loop-i : goal.invariant-loop-i
invariant-loop-i l =
    l.text.items ≡ l.initial.text.items
    ++ flat_map (written_at l.look l.is_watched (fields_of l.board) (position_value l.position) l.arrivals)
    (range_with_len 0 l.i)
