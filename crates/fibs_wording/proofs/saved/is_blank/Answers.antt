use Rattle.std.proofs.Common.{◌∙◌, sym}
use Rattle.fibs_wording.proofs.WordLemmas.{no_words}
use Rattle.fibs_wording.proofs.saved.is_blank.Goals as goal

pub returns : goal.returns
returns c = λ blank.
    no_words c.args.text.now c.after_spaces.result.now c.after_spaces.ensures (sym c.is_empty.ensures ∙ blank)
