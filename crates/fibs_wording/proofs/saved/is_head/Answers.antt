use Rattle.std.proofs.Common.{◌++◌, ◌∙◌, ap}
use Rattle.fibs_wording.specs.SavedLists.{head_words}
use Rattle.fibs_wording.proofs.saved.is_head.Goals as goal

pub returns-in-Some : goal.returns-in-Some
returns-in-Some c = λ blank. c.in-Some.ensures ∙ ap (λ ws. head_words ++ ws) (c.is_blank.ensures blank)
