use Rattle.std.proofs.Common.{◌++◌, ◌∷◌, [], ◌≡◌, ◌≢◌, ℕ, List, MatchOption, subst}
use Rattle.std.proofs.lemmas.Bool.Decides.{Decides-eqb}
use Rattle.std.proofs.lemmas.Slice.Eq.{strip_prefix_is, strip_suffix_is}
use Rattle.fibs_json.specs.Parts.{front}
use Rattle.fibs_json.proofs.ToldLemmas.{without_front}
use Rattle.fibs_json.proofs.told.inner.Goals as goal

pub returns-in-Some : goal.returns-in-Some
returns-in-Some c =
    let word = c.args.word.now in
    let cut = strip_suffix_is Decides-eqb word (125 ∷ []) c.strip_suffix.result c.strip_suffix.ensures.cases in
    let is = subst (λ r. MatchOption r ((rest : List ℕ) → word ≢ rest ++ (125 ∷ [])) (λ x. word ≡ x.now ++ (125 ∷ [])))
    c.in-Some.is cut in
    without_front word c.in-Some.object.now c.strip_prefix.result is
    (strip_prefix_is Decides-eqb c.in-Some.object.now front c.strip_prefix.result c.strip_prefix.ensures.cases)

pub returns-in-None : goal.returns-in-None
returns-in-None c = λ rest.
    let word = c.args.word.now in
    let cut = strip_suffix_is Decides-eqb word (125 ∷ []) c.strip_suffix.result c.strip_suffix.ensures.cases in
    let none = subst
    (λ r. MatchOption r ((rest : List ℕ) → word ≢ rest ++ (125 ∷ [])) (λ x. word ≡ x.now ++ (125 ∷ [])))
    c.in-None.is cut in
    none (front ++ rest)
