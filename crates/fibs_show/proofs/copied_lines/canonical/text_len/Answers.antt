use Rattle.std.proofs.Common.{arith}
use Rattle.std.proofs.lemmas.Bool.Decides.{nat_tests}
use Rattle.fibs_show.proofs.LineLemmas.BeginningFields.{text_begins}
use Rattle.fibs_show.proofs.copied_lines.canonical.text_len.Goals as goal

pub returns-clause-begins : goal.returns-clause-begins
returns-clause-begins c = text_begins c.args.text.now
    (grind (arith, nat_tests, c.is_empty.ensures, c.if-is_empty.false))
