-- The plays that are kept, sorted, are the list of plays of the rules.
use Rattle.std.proofs.Common.{◌≡◌, ◌+◌, ◌<◌, ◌≤◌, inl, inr, List, [], ◌∷◌, length, map, get_or, Option, Some, None, true, false, refl, sym, ap, subst, ◌∙◌, arith}
use Rattle.std.specs.Prelude.{option_map}
use Rattle.std.specs.declared.cmp.Ordering.TheVariants.{Greater}
use Rattle.std.specs.List.{fold, Contains, IsDistinct, AllAdjacentBelow}
use Rattle.std.specs.List.Sorted.{IsPermutation, IsSortedBy}
use Rattle.std.specs.HashMap.{HashMap, IsUnique, get, keys, values}
use Rattle.std.specs.Ordering.{is_lt, is_gt}
use Rattle.std.proofs.lemmas.Bool.{cases_Bool}
use Rattle.std.proofs.lemmas.List.{get_or-map, length-map}
use Rattle.std.proofs.lemmas.List.Elements.{Contains-get_or}
use Rattle.std.proofs.lemmas.List.Sorted.{Contains-permutation, IsPermutation-sym}
use Rattle.std.proofs.lemmas.Map.Keys.{IsDistinct-IsPermutation, IsDistinct-from_apart, apart_from_distinct}
use Rattle.std.proofs.lemmas.Map.Made.{Contains-from_values_of, Contains-values_of}
use Rattle.std.proofs.lemmas.Map.Views.{hash_map_get_iff}
use Rattle.std.proofs.lemmas.Cmp.{upto}
use Rattle.fibs_rules.specs.Hop.{Hop}
use Rattle.fibs_rules.specs.PlayValue.{hops_of}
use Rattle.fibs_rules.specs.Search.{kept_in, nothing, noted, all_of}
use Rattle.fibs_rules.specs.Reached.{checkers_eq, same_checkers, itself_eq}
use Rattle.fibs_rules.specs.ReachedValue.{reached_eq, reached_equiv}
use Rattle.fibs_rules.specs.declared.play.Play.{Play}
use Rattle.fibs_rules.specs.declared.reached.Reached.{Reached}
use Rattle.fibs_rules.specs.Checkers.{Checkers}
use Rattle.fibs_rules.specs.Runs.{Run, Standing}
use Rattle.fibs_rules.specs.LegalPlays.{play_cmp, Leads, IsGreatest, PlayList}
use Rattle.fibs_rules.proofs.PlayListLemmas.PlayOrder.{play_total, not_greater, gt_from, play_same, above, level, level_flips, level_same}
use Rattle.fibs_rules.proofs.PlayListLemmas.KeptPlays.{NoLess, all_from, all_have}
use Rattle.fibs_rules.proofs.PlayListLemmas.AllTried.{reach, all_sound, all_complete, run_one}

-- the key for an arrangement
abbrev key : Checkers → Reached
key q = record { at = q }

-- keys that pass the map's test are one
same_reached : (a b : Reached) → reached_eq a b ≡ true → a ≡ b
same_reached a b e = λ i. record { at = same_checkers a.at b.at e i }

-- a play of which this is the value
play_of : (o : Option Play) (steps : List Hop) → option_map hops_of o ≡ Some steps
    → (play : Play) × (o ≡ Some play) × (hops_of play ≡ steps)
play_of None steps e = absurd cc
play_of (Some play) steps e = (play, refl, cc)

-- a value in a list of values is that of a play in the list
play_in : (plays : List Play) (steps : List Hop) → Contains (map hops_of plays) steps
    → (play : Play) × Contains plays play × (hops_of play ≡ steps)
play_in [] steps (k, lt, e) = absurd (omega arith)
play_in (x ∷ plays) steps (k, lt, e) =
    let long = length-map (x ∷ plays) hops_of in
    let low : k < length (x ∷ plays) = omega (arith, lt, long) in (
      get_or (x ∷ plays) k x,
      Contains-get_or (x ∷ plays) k x low,
      sym (get_or-map hops_of (x ∷ plays) k x steps low) ∙ e,
    )

-- the value of a play in the list is in the list of values
value_in : (plays : List Play) (play : Play) → Contains plays play → Contains (map hops_of plays) (hops_of play)
value_in plays play (k, lt, e) =
    let long = length-map plays hops_of in
    (k, omega (arith, lt, long), get_or-map hops_of plays k play (hops_of play) lt ∙ ap hops_of e)

-- plays in order, no two of them level, are in descending order
descends : (plays : List Play) → IsSortedBy (λ (a b : Play). is_lt (play_cmp (hops_of b) (hops_of a))) plays
    → IsDistinct level plays
    → AllAdjacentBelow (λ a b. play_cmp a b ≡ Greater) (map hops_of plays) (length (map hops_of plays))
descends [] order apart = λ k d h. absurd (omega arith)
descends (x ∷ plays) order apart = λ k d h.
    let long = length-map (x ∷ plays) hops_of in
    let lt : k + 1 < length (x ∷ plays) = omega (arith, h, long) in
    rw (get_or-map hops_of (x ∷ plays) k x d (omega arith), get_or-map hops_of (x ∷ plays) (k + 1) x d lt)
    (above _ (order k x (omega arith) lt) (apart_from_distinct level (x ∷ plays) k (k + 1) x apart (omega arith) lt))

module _ {S : Type 0} (p : Standing) (kept : HashMap Reached Play S) (l : p.first ≤ 6) (r : p.second ≤ 6)
    (unique : IsUnique reached_eq kept) (keeps : kept_in kept ≡ fold noted nothing (all_of p)) where
  -- a play that is kept for an arrangement is legal, and leads there
  kept_leads : (q : Checkers) (steps : List Hop) → kept_in kept q ≡ Some steps → Leads p steps q
  kept_leads q steps e =
      elim (all_from (all_of p) nothing q steps (sym (ap (λ f. f q) keeps) ∙ e)) [
        | inl none ↦ absurd cc
        | inr h ↦ all_sound p (reach steps q) l r h
      ]

  -- for each legal play one that is no less is kept
  kept_covers : (steps : List Hop) (q : Checkers) → Leads p steps q → NoLess (kept_in kept q) steps
  kept_covers steps q h =
      let (x, m, leads, k) = all_complete p steps q l r h in
      let (best, is, g) = all_have (all_of p) nothing x m in (
        best,
        ap (λ f. f q) keeps ∙ ap (fold noted nothing (all_of p)) (sym leads) ∙ is,
        upto play_total steps x.play best k g,
      )

  -- the play of an entry is kept for its arrangement
  entry_kept : (q : Checkers) (play : Play) → Contains kept.entries (key q, play) → kept_in kept q ≡ Some (hops_of play)
  entry_kept q play m =
      ap (option_map hops_of) ((hash_map_get_iff reached_equiv same_reached kept unique (key q) play).1 m)

  -- it is the greatest of those that lead there
  entry_greatest : (q : Checkers) (play : Play) → Contains kept.entries (key q, play) → IsGreatest p (hops_of play)
  entry_greatest q play m = record {
    to = q;
    leads = kept_leads q (hops_of play) (entry_kept q play m);
    greatest = λ others o.
        let (best, is, g) = kept_covers others q o in
        let same : best ≡ hops_of play = (let e = entry_kept q play m in cc) in
        not_greater (play_cmp others (hops_of play)) (subst (λ ms. is_gt (play_cmp others ms) ≡ false) same g);
  }

  -- each greatest play is the value of some entry
  greatest_kept : (steps : List Hop) → IsGreatest p steps → Contains (map hops_of (values kept)) steps
  greatest_kept steps g =
      let (best, is, no_less) = kept_covers steps g.to g.leads in
      let (play, found, value) = play_of (get reached_eq kept (key g.to)) best is in
      let entry = (hash_map_get_iff reached_equiv same_reached kept unique (key g.to) play).0 found in
      let other : Leads p best g.to = kept_leads g.to best is in
      let same : steps ≡ best = play_same steps best no_less (gt_from _ (g.greatest best other)) in
      subst (Contains (map hops_of (values kept))) (value ∙ sym same)
      (value_in (values kept) play (Contains-values_of kept.entries (key g.to) play entry))

  -- entries with the same steps are for one arrangement
  one_arrangement : (q s : Checkers) (a b : Play) → Contains kept.entries (key q, a) → Contains kept.entries (key s, b)
      → hops_of a ≡ hops_of b → q ≡ s
  one_arrangement q s a b m n e =
      let (dice, part, run) = (kept_leads q (hops_of a) (entry_kept q a m)).1 in
      let (others, parts, runs) = (kept_leads s (hops_of b) (entry_kept s b n)).1 in
      run_one p.checkers q s dice others (hops_of b) (subst (λ ms. Run p.checkers dice ms q) e run) runs

  -- so no two values of the map are level
  values_apart : IsDistinct level (values kept)
  values_apart = IsDistinct-from_apart level (values kept) (λ i j d before lt.
      let first : Reached = key p.checkers in
      let e : Reached × Play = (first, d) in
      let long = length-map kept.entries (λ (x : Reached × Play). x.1) in
      let as_long = length-map kept.entries (λ (x : Reached × Play). x.0) in
      let high : j < length kept.entries = omega (arith, lt, long) in
      let low : i < length kept.entries = omega (arith, high, before) in
      let a : Reached × Play = get_or kept.entries i e in
      let b : Reached × Play = get_or kept.entries j e in
      let differ : reached_eq a.0 b.0 ≡ false =
      rw (
        get_or-map (λ (x : Reached × Play). x.0) kept.entries i e first low,
        get_or-map (λ (x : Reached × Play). x.0) kept.entries j e first high,
      )
      at (apart_from_distinct reached_eq (keys kept) i j first unique before (omega (arith, high, as_long))) in
      rw (
        get_or-map (λ (x : Reached × Play). x.1) kept.entries i e d low,
        get_or-map (λ (x : Reached × Play). x.1) kept.entries j e d high,
      )
      (elim (cases_Bool (level a.1 b.1)) [
        | inl alike ↦
            let same : a.0.at ≡ b.0.at =
            one_arrangement a.0.at b.0.at a.1 b.1 (Contains-get_or kept.entries i e low)
            (Contains-get_or kept.entries j e high) (level_same a.1 b.1 alike) in
            let never = sym (itself_eq a.0.at) ∙ ap (checkers_eq a.0.at) same ∙ differ in
            absurd cc
        | inr apart ↦ apart
      ]))

-- the plays of the map, sorted, are those of the rules, in descending order
pub listed : {S : Type 0} (p : Standing) (kept : HashMap Reached Play S) (plays : List Play) → p.first ≤ 6
    → p.second ≤ 6
    → IsUnique reached_eq kept → kept_in kept ≡ fold noted nothing (all_of p) → IsPermutation (values kept) plays
    → IsSortedBy (λ (a b : Play). is_lt (play_cmp (hops_of b) (hops_of a))) plays → PlayList p (map hops_of plays)
listed p kept plays l r unique keeps moves order = record {
  each = λ steps. (
    λ h.
        let (play, m, value) = play_in plays steps h in
        let n = Contains-permutation plays (values kept) play (IsPermutation-sym _ _ moves) m in
        let (q, entry) = Contains-from_values_of kept.entries play n in
        subst (IsGreatest p) value (entry_greatest p kept l r unique keeps q.at play entry),
    λ g.
        let (play, m, value) = play_in (values kept) steps (greatest_kept p kept l r unique keeps steps g) in
        subst (Contains (map hops_of plays)) value
        (value_in plays play (Contains-permutation (values kept) plays play moves m)),
  );
  descending =
      descends plays order
      (IsDistinct-IsPermutation level level_flips (values kept) plays moves
      (values_apart p kept l r unique keeps));
}
