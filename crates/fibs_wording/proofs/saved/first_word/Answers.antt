use Rattle.std.proofs.Common.{◌∙◌, ap, sym}
use Rattle.fibs_fields.specs.Split.{seen}
use Rattle.fibs_wording.proofs.WordLemmas.{taken_none, taken_some}
use Rattle.fibs_wording.proofs.saved.first_word.Goals as goal

pub returns-in-None : goal.returns-in-None
returns-in-None c =
    taken_none c.args.text.now c.after_spaces.result.now c.split.result.0.now c.after_spaces.ensures
    c.split.ensures.before (sym c.split.ensures.after ∙ ap seen c.in-None.is)

pub returns-in-Some : goal.returns-in-Some
returns-in-Some c =
    taken_some c.args.text.now c.after_spaces.result.now c.split.result.0.now c.in-Some.rest.now c.after_spaces.ensures
    c.split.ensures.before (sym c.split.ensures.after ∙ ap seen c.in-Some.is)
