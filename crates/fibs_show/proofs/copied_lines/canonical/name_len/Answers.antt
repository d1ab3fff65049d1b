use Rattle.std.proofs.Common.{arith}
use Rattle.fibs_show.proofs.LineLemmas.BeginningFields.{name_begins}
use Rattle.fibs_show.proofs.copied_lines.canonical.name_len.Goals as goal

pub returns : goal.returns
returns c =
    name_begins c.args.text.now c.name_run-len.result c.name_run-len.ensures (omega arith) (omega arith)
