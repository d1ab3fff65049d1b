use Rattle.std.proofs.Common.{arith}
use Rattle.fibs_position.specs.PositionValue.{position_value}
use Rattle.fibs_advice.specs.Changes.{pips_on}
use Rattle.fibs_advice.proofs.PlacesLemmas.{pips-more}
use Rattle.fibs_advice.proofs.changes.pips.Goals as goal

pub loop-place-preserved : goal.loop-place-preserved
loop-place-preserved c =
    pips-more (pips_on (position_value c.args.position.now).standing.checkers) c.loop-place.pips c.loop-place.place
    c.from.result c.from-in-loop-place.result (omega arith) (omega arith) (cc) c.loop-place.invariant
