use Rattle.std.proofs.Common.{[], codes}
use Rattle.fibs_engine.proofs.OkLemmas.{on_ok_weaker}
use Rattle.fibs_lines.specs.Lines.{value_of}
use Rattle.fibs_messages.specs.Line.{reading_of}
use Rattle.fibs_json.specs.Lines.{line_object}
use Rattle.fibs_json.proofs.ObjectLemmas.{cut_heard, read_heard}
use Rattle.fibs_json.proofs.line.append_heard.Goals as goal

pub returns-then-line : goal.returns-then-line
returns-then-line c =
    let line = value_of c.args.line.now in
    on_ok_weaker c.append_cut.result
    (λ e. (
      line_object (codes "cut") line.bytes [],
      cut_heard line (reading_of c.args.reading.now) c.if-line.true,
      e,
    ))
    c.append_cut.ensures

pub returns-else-line : goal.returns-else-line
returns-else-line c =
    let line = value_of c.args.line.now in
    on_ok_weaker c.append_read.result
    (λ h. (h.0, read_heard line (reading_of c.args.reading.now) h.0 c.if-line.false h.1, h.2))
    c.append_read.ensures
