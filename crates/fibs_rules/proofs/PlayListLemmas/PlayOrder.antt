-- The order of steps and of plays is a total one.
use Rattle.std.proofs.Common.{◌≡◌, ◌≢◌, ℕ, List, [], ◌∷◌, map, true, false, refl, sym, ap, subst, ◌∙◌, ◌⊎◌, inl, inr, Option, Some, None, Bool}
use Rattle.std.proofs.lemmas.Bool.{cond_both, false≢true}
use Rattle.std.specs.declared.cmp.Ordering.{Ordering}
use Rattle.std.specs.declared.cmp.Ordering.TheVariants.{Less, Equal, Greater}
use Rattle.std.specs.Ordering.{ordering_then, is_lt, is_gt, is_eq, nat_cmp, ordering_reverse}
use Rattle.std.specs.Cmp.{IsTotalOrder, IsStrictWeakOrder, Equal-is}
use Rattle.std.specs.Cmp.Lexicographic.{lists_total, slice_cmp}
use Rattle.std.specs.FinMap.{slice_cmp-IsAntisymmetric}
use Rattle.std.proofs.lemmas.Cmp.{then_total, on_total, nat_cmp_total, tied_itself}
use Rattle.std.proofs.lemmas.List.Sorted.{ranks_by, IsStrictWeakOrder-flip}
use Rattle.std.proofs.lemmas.Map.Lookups.{exact_pairs, exact_unsigned}
use Rattle.fibs_rules.specs.Hop.{Hop, hop_of}
use Rattle.fibs_rules.specs.PlayValue.{hops_of}
use Rattle.fibs_rules.specs.declared.step.Step.{Step}
use Rattle.fibs_rules.specs.declared.play.Play.{Play}
use Rattle.fibs_rules.specs.LegalPlays.{hop_cmp, play_cmp}
use Rattle.fibs_rules.specs.Search.{greater}

-- the order of steps is total
pub hop_total : IsTotalOrder hop_cmp
hop_total = then_total (on_total (λ s. s.source) nat_cmp_total) (on_total (λ s. s.target) nat_cmp_total)

-- so is that of plays
pub play_total : IsTotalOrder play_cmp
play_total = lists_total hop_total

-- steps that are level are one
hop_exact : (x y : Hop) → hop_cmp x y ≡ Equal → x ≡ y
hop_exact x y e =
    ap (λ (p : ℕ × ℕ). record { source = p.0; target = p.1 })
    (exact_pairs nat_cmp nat_cmp exact_unsigned exact_unsigned (x.source, x.target) (y.source, y.target) e)

-- plays that compare alike are one
pub play_exact : (x y : List Hop) → play_cmp x y ≡ Equal → x ≡ y
play_exact = slice_cmp-IsAntisymmetric {R = hop_cmp} hop_exact

-- how steps compare, as their places do
pub cmp_hops : (xs ys : List Step)
    → slice_cmp (λ (a b : Step). ordering_then (nat_cmp a.source b.source) (nat_cmp a.target b.target)) xs ys ≡ play_cmp
    (map hop_of xs) (map hop_of ys)
cmp_hops [] [] = refl
cmp_hops [] (y ∷ ys) = refl
cmp_hops (x ∷ xs) [] = refl
cmp_hops (x ∷ xs) (y ∷ ys) = ap (ordering_then (hop_cmp (hop_of x) (hop_of y))) (cmp_hops xs ys)

-- the order of a sort that puts the greatest play first
pub descending_order : IsStrictWeakOrder (λ (a b : Play). is_lt (play_cmp (hops_of b) (hops_of a)))
descending_order =
    IsStrictWeakOrder-flip (λ (a b : Play). is_lt (play_cmp (hops_of a) (hops_of b))) (ranks_by play_total hops_of)

-- the other way round, less is greater
reversed : (a b : Ordering) → a ≡ ordering_reverse b → is_lt a ≡ is_gt b
reversed a Less e = ap is_lt e
reversed a Equal e = ap is_lt e
reversed a Greater e = ap is_lt e

-- less is not greater
lt_not_gt : (o : Ordering) → is_lt o ≡ true → is_gt o ≡ false
lt_not_gt Less e = refl
lt_not_gt Equal e = refl
lt_not_gt Greater e = sym e

-- no play is above itself
pub itself : (a : List Hop) → is_gt (play_cmp a a) ≡ false
itself a = ap is_gt (tied_itself play_total a)

-- the play that is kept is not above the greater of both
pub greater_kept : (kept : Option (List Hop)) (best found : List Hop) → kept ≡ Some best
    → is_gt (play_cmp best (greater kept found)) ≡ false
greater_kept kept best found e =
    subst (λ o. is_gt (play_cmp best (greater o found)) ≡ false) (sym e)
    (cond_both (is_lt (play_cmp best found)) found best (λ r. is_gt (play_cmp best r) ≡ false)
    (λ e. lt_not_gt _ e) (λ e. itself best))

-- nor is the play that is found
pub greater_found : (kept : Option (List Hop)) (found : List Hop) → is_gt (play_cmp found (greater kept found)) ≡ false
greater_found None found = itself found
greater_found (Some kept) found =
    cond_both (is_lt (play_cmp kept found)) found kept (λ r. is_gt (play_cmp found r) ≡ false)
    (λ e. itself found)
    (λ e. sym (reversed _ _ (play_total.antisymm kept found)) ∙ e)

-- one of the two
pub greater_which : (kept : Option (List Hop)) (found : List Hop)
    → (kept ≡ Some (greater kept found)) ⊎ (greater kept found ≡ found)
greater_which None found = inr refl
greater_which (Some kept) found =
    cond_both (is_lt (play_cmp kept found)) found kept (λ r. (Some kept ≡ Some r) ⊎ (r ≡ found)) (λ e. inr refl)
    (λ e. inl refl)

-- what follows if the test fails
pub not_greater : (o : Ordering) → is_gt o ≡ false → o ≢ Greater
not_greater o e g = absurd (false≢true (sym e ∙ ap is_gt g))

-- and fails if one is
pub gt_from : (o : Ordering) → o ≢ Greater → is_gt o ≡ false
gt_from Less e = refl
gt_from Equal e = refl
gt_from Greater e = absurd (e refl)

-- neither above the other are level
tied : (a b : Ordering) → a ≡ ordering_reverse b → is_gt a ≡ false → is_gt b ≡ false → a ≡ Equal
tied a Less e f g = absurd (false≢true (sym f ∙ ap is_gt e))
tied a Equal e f g = e
tied a Greater e f g = absurd (false≢true (sym g))

-- two plays are the same if neither is the greater
pub play_same : (a b : List Hop) → is_gt (play_cmp a b) ≡ false → is_gt (play_cmp b a) ≡ false → a ≡ b
play_same a b f g = play_exact a b (tied _ _ (play_total.antisymm a b) f g)

-- what is neither less nor level is greater
pub above : (o : Ordering) → is_lt o ≡ false → is_eq o ≡ false → o ≡ Greater
above Less e f = absurd (false≢true (sym e))
above Equal e f = absurd (false≢true (sym f))
above Greater e f = refl

-- two plays are level
abbrev pub level : Play → Play → Bool
level a b = is_eq (play_cmp (hops_of a) (hops_of b))

-- the other way round, level is level
level_back : (a b : Ordering) → a ≡ ordering_reverse b → is_eq a ≡ is_eq b
level_back a Less e = ap is_eq e
level_back a Equal e = ap is_eq e
level_back a Greater e = ap is_eq e

-- in either order
pub level_flips : (a b : Play) → level a b ≡ level b a
level_flips a b = level_back _ _ (play_total.antisymm (hops_of a) (hops_of b))

-- plays that are level have the same steps
pub level_same : (a b : Play) → level a b ≡ true → hops_of a ≡ hops_of b
level_same a b e = play_exact (hops_of a) (hops_of b) ((Equal-is (play_cmp (hops_of a) (hops_of b))).0 e)
