use Rattle.std.proofs.Common.{arith, length, refl}
use Rattle.std.proofs.lemmas.Bool.Decides.{nat_tests}
use Rattle.fibs_show.proofs.LineLemmas.BeginningFields.{word_begins}
use Rattle.fibs_show.proofs.copied_lines.canonical.word_len.Goals as goal

pub returns : goal.returns
returns c =
    word_begins c.args.text.now c.split.result.0.now (length c.split.result.0.now) c.split.ensures.before refl
    (grind (arith, nat_tests, c.is_empty.ensures, c.if-is_empty.false))
