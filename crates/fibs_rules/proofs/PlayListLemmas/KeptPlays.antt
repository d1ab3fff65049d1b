-- What is kept for an arrangement: a play that was found to lead to it, and no less than any other.
use Rattle.std.proofs.Common.{◌≡◌, ◌⊎◌, inl, inr, List, [], ◌∷◌, Option, Some, false, refl, sym, subst, ◌∙◌}
use Rattle.std.specs.List.{fold}
use Rattle.std.specs.Ordering.{is_gt}
use Rattle.std.proofs.lemmas.Bool.{cond_both, cond-true}
use Rattle.std.proofs.lemmas.Cmp.{upto}
use Rattle.fibs_rules.specs.Hop.{Hop}
use Rattle.fibs_rules.specs.Checkers.{Checkers}
use Rattle.fibs_rules.specs.LegalPlays.{play_cmp}
use Rattle.fibs_rules.specs.Search.{Reach, Kept, greater, noted}
use Rattle.fibs_rules.specs.Reached.{checkers_eq, same_checkers, itself_eq}
use Rattle.fibs_rules.proofs.PlayListLemmas.PlayOrder.{play_total, greater_kept, greater_found, greater_which}
use Rattle.fibs_rules.proofs.PlayListLemmas.Reaches.{In}
use Rattle.fibs_rules.proofs.PlayListLemmas.AllTried.{reach}

-- what is kept is no less than this play
abbrev pub NoLess : Option (List Hop) → List Hop → Type 0
NoLess kept steps = (best : List Hop) × (kept ≡ Some best) × (is_gt (play_cmp steps best) ≡ false)

-- what is kept was kept, or is the one noted
noted_from : (kept : Kept) (found : Reach) (q : Checkers) (steps : List Hop) → noted kept found q ≡ Some steps
    → (kept q ≡ Some steps) ⊎ (reach steps q ≡ found)
noted_from kept found q steps =
    cond_both (checkers_eq found.leads q) (Some (greater (kept q) found.play)) (kept q)
    (λ o. o ≡ Some steps → (kept q ≡ Some steps) ⊎ (reach steps q ≡ found))
    (λ e h. elim (greater_which (kept q) found.play) [
      | inl old ↦ inl (old ∙ h)
      | inr new ↦
          let same : greater (kept q) found.play ≡ steps = cc in
          let play : steps ≡ found.play = sym same ∙ new in
          let leads : q ≡ found.leads = sym (same_checkers found.leads q e) in
          inr (λ i. record { play = play i; leads = leads i })
    ])
    (λ e h. inl h)

-- what was no less is no less still
noted_keeps : (kept : Kept) (found : Reach) (q : Checkers) (steps : List Hop) → NoLess (kept q) steps
    → NoLess (noted kept found q) steps
noted_keeps kept found q steps (best, is, no_less) =
    cond_both (checkers_eq found.leads q) (Some (greater (kept q) found.play)) (kept q)
    (λ o. NoLess o steps)
    (λ e. (
      greater (kept q) found.play,
      refl,
      upto play_total steps best (greater (kept q) found.play) no_less (greater_kept (kept q) best found.play is),
    ))
    (λ e. (best, is, no_less))

-- it is no less than the one noted
noted_has : (kept : Kept) (found : Reach) → NoLess (noted kept found found.leads) found.play
noted_has kept found =
    subst (λ o. NoLess o found.play)
    (sym (cond-true (checkers_eq found.leads found.leads) _ _ (itself_eq found.leads)))
    (greater (kept found.leads) found.play, refl, greater_found (kept found.leads) found.play)

-- the same for a whole list that is noted
pub all_from : (found : List Reach) (kept : Kept) (q : Checkers) (steps : List Hop)
    → fold noted kept found q ≡ Some steps → (kept q ≡ Some steps) ⊎ In (reach steps q) found
all_from [] kept q steps h = inl h
all_from (f ∷ found) kept q steps h = elim (all_from found (noted kept f) q steps h) [
  | inl a ↦ elim (noted_from kept f q steps a) [ inl old ↦ inl old | inr new ↦ inr (inl new) ]
  | inr b ↦ inr (inr b)
]

-- what was no less is so after all are noted
all_keep : (found : List Reach) (kept : Kept) (q : Checkers) (steps : List Hop) → NoLess (kept q) steps
    → NoLess (fold noted kept found q) steps
all_keep [] kept q steps h = h
all_keep (f ∷ found) kept q steps h = all_keep found (noted kept f) q steps (noted_keeps kept f q steps h)

-- it is no less than each one noted
pub all_have : (found : List Reach) (kept : Kept) (x : Reach) → In x found
    → NoLess (fold noted kept found x.leads) x.play
all_have [] kept x h = absurd h
all_have (f ∷ found) kept x (inl e) =
    subst (λ (r : Reach). NoLess (fold noted kept (f ∷ found) r.leads) r.play) (sym e)
    (all_keep found (noted kept f) f.leads f.play (noted_has kept f))
all_have (f ∷ found) kept x (inr h) = all_have found (noted kept f) x h
