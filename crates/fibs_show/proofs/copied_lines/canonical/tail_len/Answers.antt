use Rattle.std.proofs.Common.{◌<◌, arith, length}
use Rattle.std.proofs.lemmas.Bool.Decides.{nat_tests}
use Rattle.fibs_show.proofs.LineLemmas.BeginningFields.{tail_begins}
use Rattle.fibs_show.proofs.copied_lines.canonical.tail_len.Goals as goal

pub returns-clause-begins : goal.returns-clause-begins
returns-clause-begins c =
    let some : 0 < length c.args.text.now = grind (arith, nat_tests, c.is_empty.ensures, c.if-is_empty.false) in
    tail_begins c.args.text.now some c.if-text-eq32.false
