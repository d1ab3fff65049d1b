use Rattle.std.proofs.Common.{sym, arith, ◌∙◌}
use Rattle.fibs_lines.proofs.RunLemmas.{IsRun-next}
use Rattle.fibs_lines.proofs.unfinished.run_from.Goals as goal

pub loop-at-preserved : goal.loop-at-preserved
loop-at-preserved c = record {
  in_range = omega (arith, c.loop-at-test.true);
  run = IsRun-next c.loop-at.at c.args.bytes.now c.loop-at-test.true c.loop-at.invariant.run
      (sym c.ends_run.ensures ∙ c.if-ends_run.false);
}
