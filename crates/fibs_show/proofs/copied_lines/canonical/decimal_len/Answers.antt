use Rattle.std.proofs.Common.{arith, sym, ◌∙◌}
use Rattle.fibs_show.proofs.LineLemmas.BeginningFields.{decimal_begins}
use Rattle.fibs_show.proofs.copied_lines.canonical.decimal_len.Goals as goal

pub returns-then-len-eq1 : goal.returns-then-len-eq1
returns-then-len-eq1 c =
    decimal_begins c.args.text.now 1 c.args.most (sym c.if-len-eq1.true ∙ c.digit_run-len.ensures) (omega arith)
    (omega arith) c.requires.few (λ more. absurd (omega arith))

pub returns : goal.returns
returns c =
    decimal_begins c.args.text.now c.digit_run-len.result c.args.most c.digit_run-len.ensures
    (omega arith) (omega arith)
    c.requires.few (λ more. c.if-text-eq48.false)
