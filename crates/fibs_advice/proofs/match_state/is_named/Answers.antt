use Rattle.std.proofs.Common.{◌++◌, ◌∷◌, [], ◌≡◌, ◌≢◌, ◌∙◌, ℕ, List, MatchOption, ap, inr, subst}
use Rattle.std.proofs.lemmas.Bool.Decides.{Decides-eqb}
use Rattle.std.proofs.lemmas.Slice.Eq.{strip_suffix_is}
use Rattle.fibs_advice.proofs.match_state.is_named.Goals as goal

pub returns-in-Some : goal.returns-in-Some
returns-in-Some c = λ yes.
    let rest = c.args.rest.now in
    let cut = strip_suffix_is Decides-eqb rest (46 ∷ []) c.strip_suffix.result c.strip_suffix.ensures.cases in
    let is = subst
    (λ r. MatchOption r ((front : List ℕ) → rest ≢ front ++ (46 ∷ [])) (λ x. rest ≡ x.now ++ (46 ∷ [])))
    c.in-Some.is cut in
    inr (is ∙ ap (λ l. l ++ (46 ∷ [])) (c.is_same-in-Some.ensures.0 yes))
