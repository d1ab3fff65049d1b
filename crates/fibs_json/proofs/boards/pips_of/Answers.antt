use Rattle.std.proofs.Common.{arith}
use Rattle.fibs_position.specs.PositionValue.{position_value}
use Rattle.fibs_json.specs.Boards.{pips_on}
use Rattle.fibs_json.proofs.ObjectLemmas.{pips_more}
use Rattle.fibs_json.proofs.boards.pips_of.Goals as goal

pub loop-place-preserved : goal.loop-place-preserved
loop-place-preserved c =
    pips_more (pips_on c.args.side (position_value c.args.position.now).standing.checkers) c.loop-place.pips
    c.loop-place.place c.from.result c.from-in-loop-place.result (omega arith) (omega arith) (cc) c.loop-place.invariant
