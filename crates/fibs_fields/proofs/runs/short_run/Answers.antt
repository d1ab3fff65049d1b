use Rattle.std.proofs.Common.{arith}
use Rattle.fibs_fields.specs.Runs.{is_between}
use Rattle.fibs_fields.proofs.FieldLemmas.Runs.{window_run}
use Rattle.fibs_fields.proofs.runs.short_run.Goals as goal

pub returns-clause-run : goal.returns-clause-run
returns-clause-run c =
    (window_run (is_between c.args.low c.args.high c.args.except) c.args.text.now c.outside-outside.result (omega arith)
    c.outside-outside.ensures (omega arith)).0

pub returns-clause-ends : goal.returns-clause-ends
returns-clause-ends c =
    (window_run (is_between c.args.low c.args.high c.args.except) c.args.text.now c.outside-outside.result (omega arith)
    c.outside-outside.ensures (omega arith)).1
