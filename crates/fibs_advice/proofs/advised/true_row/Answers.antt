use Rattle.std.proofs.Common.{sym, ◌∙◌}
use Rattle.std.proofs.lemmas.Bool.{false≢true}
use Rattle.fibs_advice.proofs.advised.true_row.Goals.{else-is_true-via-then-is_true+else-says_offers, else-is_true-via-else-is_true}
use Rattle.fibs_advice.proofs.advised.true_row.Goals as goal

pub returns-else-is_true-clause-kept : goal.returns-else-is_true-clause-kept
returns-else-is_true-clause-kept c = λ t stands may.
    elim c.else-is_true.branch [
      | else-is_true-via-then-is_true+else-says_offers w ↦
          absurd (false≢true (sym w.if-says_offers.false ∙ w.says_offers.ensures.only may.shown may.named))
      | else-is_true-via-else-is_true w ↦
          absurd (false≢true (sym w.if-is_true.false ∙ c.is_true.ensures.only t stands may))
    ]
