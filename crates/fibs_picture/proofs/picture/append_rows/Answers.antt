use Rattle.fibs_fields.specs.StoredBoard.{fields_of}
use Rattle.fibs_position.specs.PositionValue.{position_value}
use Rattle.fibs_picture.specs.Whole.{written_at}
use Rattle.fibs_picture.proofs.PictureLemmas.Growing.{columns-written}
use Rattle.fibs_picture.proofs.picture.append_rows.Goals as goal

pub loop-i-preserved : goal.loop-i-preserved
loop-i-preserved c =
    columns-written (written_at c.args.look.now c.args.is_watched (fields_of c.args.board.now)
    (position_value c.args.position.now) c.args.arrivals.now)
    c.loop-i.i _ _ _ c.loop-i.invariant c.in_ok-append_at.ensures
