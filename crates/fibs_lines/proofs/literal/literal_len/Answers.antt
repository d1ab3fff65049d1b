use Rattle.std.proofs.Common.{refl, arith}
use Rattle.fibs_lines.proofs.LiteralLemmas.{literal_window, literal_stops}
use Rattle.fibs_lines.proofs.literal.literal_len.Goals as goal

pub returns-then-found-ne0 : goal.returns-then-found-ne0
returns-then-found-ne0 c =
    literal_stops c.args.bytes.now c.loop-at.at c.others-found.result c.loop-at.invariant (omega arith)
    c.others-found.ensures _ c.if-found-ne0.true refl

pub loop-at-preserved : goal.loop-at-preserved
loop-at-preserved c =
    literal_window c.args.bytes.now c.loop-at.at c.others-found.result c.loop-at.invariant (omega arith)
    c.others-found.ensures c.if-found-ne0.false
