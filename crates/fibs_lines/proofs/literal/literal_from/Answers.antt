use Rattle.std.proofs.Common.{sym, ◌∙◌}
use Rattle.fibs_lines.proofs.LiteralLemmas.{literal_next}
use Rattle.fibs_lines.proofs.literal.literal_from.Goals as goal

pub loop-at-preserved : goal.loop-at-preserved
loop-at-preserved c =
    literal_next c.args.bytes.now c.loop-at.at c.loop-at.invariant c.loop-at-test.true
    (sym c.is_literal.ensures ∙ c.if-not-is_literal.false)
