use Rattle.fibs_position.specs.PositionValue.{position_value}
use Rattle.fibs_picture.specs.Cell.{drawn_column}
use Rattle.fibs_picture.proofs.PictureLemmas.Growing.{columns-written}
use Rattle.fibs_picture.proofs.rows.append_board_row.Goals as goal

pub loop-column-preserved : goal.loop-column-preserved
loop-column-preserved c =
    columns-written (drawn_column c.args.look.now (position_value c.args.position.now) c.args.arrivals.now c.args.drawn)
    c.loop-column.column _ _ _ c.loop-column.invariant c.in_ok-append_column.ensures
