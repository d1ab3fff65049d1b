use Rattle.std.proofs.Common.{◌∙◌, ◌-◌, rules, not, ap, arith, drop, length, length-drop, take_all}
use Rattle.std.proofs.lemmas.Iterator.{YieldsList-from_slice}
use Rattle.std.proofs.lemmas.Iterator.Search.{position_from_yields_List}
use Rattle.fibs_wording.specs.SavedLists.{words}
use Rattle.fibs_wording.proofs.WordLemmas.{is_space, words_none, words_some}
use Rattle.fibs_wording.proofs.saved.after_spaces.Goals as goal

pub returns-in-None : goal.returns-in-None
returns-in-None c = words_none c.args.text.now c.position.result
    (position_from_yields_List (λ b. not (is_space b)) _ _ _ c.position.ensures.ran
    (YieldsList-from_slice c.args.text.now cc) (λ x b q k. search rules)) c.in-None.is

pub returns-in-Some : goal.returns-in-Some
returns-in-Some c =
    let text = c.args.text.now in
    let at = c.in-Some.at in
    ap words (take_all (length text - at) (drop at text) (omega (arith, length-drop at text)))
    ∙ words_some text c.position.result at
    (position_from_yields_List (λ b. not (is_space b)) _ _ _ c.position.ensures.ran
    (YieldsList-from_slice text cc) (λ x b q k. search rules)) c.in-Some.is
