use Rattle.std.proofs.Common.{◌<◌, arith, length}
use Rattle.std.proofs.lemmas.Bool.Decides.{nat_tests}
use Rattle.fibs_show.proofs.LineLemmas.BeginningFields.{flag_begins}
use Rattle.fibs_show.proofs.copied_lines.canonical.flag_len.Goals as goal

pub returns : goal.returns
returns c =
    let some : 0 < length c.args.text.now = grind (arith, nat_tests, c.is_empty.ensures, c.if-is_empty.false) in
    flag_begins c.args.text.now some (omega arith) (omega arith)
