use Rattle.std.proofs.Common.{sym, ◌∙◌}
use Rattle.fibs_show.proofs.LineLemmas.BeginningFields.{rating_begins}
use Rattle.fibs_show.proofs.copied_lines.canonical.rating_len.Goals as goal

pub returns : goal.returns
returns c =
    rating_begins c.args.text.now c.in_ok-whole.whole c.in_ok-whole.ensures c.if-text-whole.false
    c.if-text-whole-ne46.false (sym c.is_ascii_digit.ensures.value ∙ c.if-not-is_ascii_digit.false)
    (sym c.is_ascii_digit-else-not-is_ascii_digit.ensures.value ∙ c.if-not-is_ascii_digit-2.false)
