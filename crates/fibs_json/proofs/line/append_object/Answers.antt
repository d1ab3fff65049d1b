use Rattle.std.proofs.Common.{[], codes}
use Rattle.fibs_engine.proofs.OkLemmas.{on_ok_weaker}
use Rattle.fibs_lines.specs.Lines.{value_of}
use Rattle.fibs_json.specs.Lines.{line_object}
use Rattle.fibs_json.proofs.ObjectLemmas.{cut_object, read_object}
use Rattle.fibs_json.proofs.line.append_object.Goals as goal

pub returns-then-line : goal.returns-then-line
returns-then-line c =
    let line = value_of c.args.line.now in
    on_ok_weaker c.append_cut.result
    (λ e. (line_object (codes "cut") line.bytes [], cut_object line c.if-line.true, e))
    c.append_cut.ensures

pub returns-else-line : goal.returns-else-line
returns-else-line c =
    let line = value_of c.args.line.now in
    on_ok_weaker c.append_reading.result
    (λ h. (h.1, read_object line h.0 h.1 c.if-line.false h.2 h.3, h.4))
    c.append_reading.ensures
