use Rattle.fibs_picture.proofs.PictureLemmas.Pips.{pips-more}
use Rattle.fibs_picture.specs.Picture.{own_pips_on}
use Rattle.fibs_position.specs.PositionValue.{position_value}
use Rattle.std.proofs.Common.{arith}
use Rattle.fibs_picture.proofs.pips.own_pips.Goals as goal

pub loop-place-preserved : goal.loop-place-preserved
loop-place-preserved c =
    pips-more (own_pips_on (position_value c.args.position.now).standing.checkers) c.loop-place.pips c.loop-place.place
    c.from.result c.from-in-loop-place.result (omega arith) (omega arith) (cc) c.loop-place.invariant
