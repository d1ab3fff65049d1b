use Rattle.std.proofs.Common.{[], sym, append-nil}
use Rattle.fibs_engine.proofs.StreamLemmas.{goes_nowhere}
use Rattle.fibs_engine.proofs.line_printer.LinePrinter.append_whole_lines.Goals as goal

pub returns-clause-goes_on : goal.returns-clause-goes_on
returns-clause-goes_on g c = (
  [],
  sym (append-nil c.args._text.now.items),
  goes_nowhere g.Self.LinePrinter.reads g.Self.LinePrinter.prints c.args._lines.now c.args.self.now,
)
