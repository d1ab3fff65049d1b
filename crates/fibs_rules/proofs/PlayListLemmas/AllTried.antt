-- The runs that are tried are legal, and each arrangement that a legal play reaches is reached by the greatest such
-- play.
use Rattle.std.proofs.Common.{◌≡◌, ◌≢◌, ◌⊎◌, ◌<◌, ℕ, ◌≤◌, inl, inr, max, List, [], ◌∷◌, ◌++◌, length, take, drop, Bool, true, false, refl, sym, ap, subst, ◌∙◌, arith, cond, eq-eqb, length-append, length-take-le, take-append-drop, take_all}
use Rattle.std.specs.Prelude.{◌&&◌, ◌==◌}
use Rattle.std.specs.Ordering.{is_gt}
use Rattle.std.proofs.lemmas.Bool.{and_parts, and_from, or_left, or_right, cond-true, cond-false, eqb-true, both_ways, cond_both}
use Rattle.std.proofs.Math.Seq.{take-append_seam}
use Rattle.fibs_rules.specs.Hop.{Hop}
use Rattle.fibs_rules.specs.Checkers.{Checkers, moved}
use Rattle.fibs_rules.specs.Runs.{Run, RunOf, Standing, held, held_of, most_of, longest, follows}
use Rattle.fibs_rules.specs.LegalPlays.{Leads, are_two, larger_first, play_cmp}
use Rattle.fibs_rules.specs.Search.{AreDice, Reach, reaches, all_in_order, all_of}
use Rattle.fibs_rules.proofs.SearchLemmas.LongestRuns.{longest-reached, run_long}
use Rattle.fibs_rules.proofs.RuleLemmas.DiceParts.{IsFront, front_from_part, part_from_held, part_from_swapped, dice_held, held_long, alike, two_held}
use Rattle.fibs_rules.proofs.SearchLemmas.FollowSteps.{dice_front}
use Rattle.fibs_rules.proofs.SearchLemmas.LegalTest.{follows_complete, legal_sound, legal_complete, two_is, larger_from, part_of_larger, playable, in_order, two_from}
use Rattle.fibs_rules.proofs.PlayListLemmas.PlayOrder.{itself}
use Rattle.fibs_rules.proofs.PlayListLemmas.Reaches.{In, in_left, in_right, in_cases, Falls, reaches_sound, reaches_complete}
use Rattle.fibs_rules.proofs.PlayListLemmas.FallingPlays.{AllAre, front_all, held_alike, falls_alike, two_fall}
use Rattle.fibs_rules.proofs.RuleLemmas.HighestFirst.{fallen, front_dice}

-- the arrangement after these steps
abbrev after : Checkers → List Hop → Checkers
after p [] = p
after p (step ∷ steps) = after (moved p step.source step.target) steps

-- a run leads where its steps lead
run_after : (p q : Checkers) (dice : List ℕ) (steps : List Hop) → Run p dice steps q → q ≡ after p steps
run_after p q [] [] run = sym run
run_after p q [] (step ∷ steps) run = absurd run
run_after p q (die ∷ dice) [] run = absurd run
run_after p q (die ∷ dice) (step ∷ steps) (r, one, run) =
    run_after r q dice steps run ∙ ap (λ c. after c steps) one.leads

-- a play leads to one arrangement
pub run_one : (p q r : Checkers) (dice others : List ℕ) (steps : List Hop) → Run p dice steps q → Run p others steps r
    → q ≡ r
run_one p q r dice others steps h k = run_after p q dice steps h ∙ sym (run_after p r others steps k)

-- no more dice are played than there are
longest_short : (p : Checkers) (dice : List ℕ) → AreDice dice → longest p dice ≤ length dice
longest_short p dice ok =
    let r = longest-reached p dice ok in
    let long = run_long p r.to r.used r.steps r.run in
    let all = ap length r.front in
    let l = r.long in
    omega (arith, long, all, l, length-append r.used r.rest)

-- nor in either order
most_short : (p : Standing) → p.first ≤ 6 → p.second ≤ 6
    → (most_of p ≤ length (held_of p.first p.second)) × (most_of p ≤ length (held_of p.second p.first))
most_short p l r =
    let f = longest_short p.checkers (held_of p.first p.second) (dice_held p.first p.second l r) in
    let g = longest_short p.checkers (held_of p.second p.first) (dice_held p.second p.first r l) in
    let e = held_long p.first p.second in
    (omega (arith, f, g, e), omega (arith, f, g, e))

-- a front of dice is of dice
dice_some : (dice : List ℕ) (n : ℕ) → AreDice dice → n ≤ length dice → AreDice (take n dice)
dice_some dice n ok le = dice_front dice n (length dice) (rw (take_all (length dice) dice (omega arith)) ok) le

-- a legal play by a front of one order of the dice
ordered : (p : Standing) (all : List ℕ) (x : Reach) → p.first ≤ 6 → p.second ≤ 6 → AreDice all → most_of p ≤ length all
    → ((most_of p == 1) && larger_first p) ≡ false
    → ((steps : List Hop) → follows p.checkers all steps ≡ true → in_order p steps ≡ true)
    → ((dice : List ℕ) → IsFront dice all → (q : Checkers) → Run p.checkers dice x.play q
    → RunOf p.checkers (held p) x.play q)
    → In x (reaches p.checkers (take (most_of p) all) 25 []) → Leads p x.play x.leads
ordered p all x l r ok short free either part h =
    let m : ℕ = most_of p in
    let (steps, is, run) = reaches_sound p.checkers (take m all) 25 [] x (dice_some all m ok short) h in
    let run_x : Run p.checkers (take m all) x.play x.leads =
    subst (λ ms. Run p.checkers (take m all) ms x.leads) (sym is) run in
    let long : length x.play ≡ m = run_long p.checkers x.leads (take m all) x.play run_x ∙ length-take-le m all short in
    let whole : take m all ++ drop m all ≡ all = take-append-drop m all in
    let fits : follows p.checkers all x.play ≡ true =
    subst (λ ds. follows p.checkers ds x.play ≡ true) whole
    (follows_complete p.checkers x.leads (take m all) (drop m all) x.play run_x) in
    let forced : ((length x.play == 1) && larger_first p) ≡ false =
    ap (λ k. (k == 1) && larger_first p) long ∙ free in (
      legal_sound p x.play l r
          (and_from _ _ (eq-eqb (length x.play) m long)
          (cond-false ((length x.play == 1) && larger_first p) _ _ forced ∙ either x.play fits)),
      part (take m all) (drop m all, whole) x.leads run_x,
    )

-- what is tried in the first order is legal
forward_sound : (p : Standing) (x : Reach) → p.first ≤ 6 → p.second ≤ 6 → ((most_of p == 1) && larger_first p) ≡ false
    → In x (all_in_order p p.first p.second) → Leads p x.play x.leads
forward_sound p x l r free =
    ordered p (held_of p.first p.second) x l r (dice_held p.first p.second l r) (most_short p l r).0 free
    (λ ms e. or_left _ _ e) (λ dice front q run. (dice, part_from_held p.first p.second dice front, run))

-- and in the second
backward_sound : (p : Standing) (x : Reach) → p.first ≤ 6 → p.second ≤ 6 → ((most_of p == 1) && larger_first p) ≡ false
    → In x (all_in_order p p.second p.first) → Leads p x.play x.leads
backward_sound p x l r free =
    ordered p (held_of p.second p.first) x l r (dice_held p.second p.first r l) (most_short p l r).1 free
    (λ ms e. or_right _ _ e) (λ dice front q run. (dice, part_from_swapped p.first p.second dice front, run))

-- and by only the larger die
forced_sound : (p : Standing) (x : Reach) → p.first ≤ 6 → p.second ≤ 6 → most_of p ≡ 1 → larger_first p ≡ true
    → In x (reaches p.checkers (max p.first p.second ∷ []) 25 []) → Leads p x.play x.leads
forced_sound p x l r one larger h =
    let die : ℕ = max p.first p.second in
    let is = (larger_from p larger).0 in
    let (steps, same, run) = reaches_sound p.checkers (die ∷ []) 25 [] x (omega (arith, is.0), omega arith, tt) h in
    let run_x : Run p.checkers (die ∷ []) x.play x.leads =
    subst (λ ms. Run p.checkers (die ∷ []) ms x.leads) (sym same) run in
    let long : length x.play ≡ 1 = run_long p.checkers x.leads (die ∷ []) x.play run_x in
    let fits : follows p.checkers (die ∷ []) x.play ≡ true =
    follows_complete p.checkers x.leads (die ∷ []) [] x.play run_x in
    let forced : ((length x.play == 1) && larger_first p) ≡ true =
    and_from _ _ (eq-eqb (length x.play) 1 long) larger in (
      legal_sound p x.play l r
          (and_from _ _ (eq-eqb (length x.play) (most_of p) (long ∙ sym one))
          (cond-true ((length x.play == 1) && larger_first p) _ _ forced ∙ fits)),
      (die ∷ [], part_of_larger p die is, run_x),
    )

-- the runs that are tried if no die is forced
abbrev free_of : Standing → List Reach
free_of p =
    cond (are_two p.first p.second) (all_in_order p p.first p.second ++ all_in_order p p.second p.first)
    (all_in_order p p.first p.second)

-- and if there is no such rule
free_sound : (p : Standing) (x : Reach) → p.first ≤ 6 → p.second ≤ 6 → ((most_of p == 1) && larger_first p) ≡ false
    → In x (free_of p) → Leads p x.play x.leads
free_sound p x l r free =
    let forward : List Reach = all_in_order p p.first p.second in
    let backward : List Reach = all_in_order p p.second p.first in
    cond_both (are_two p.first p.second) (forward ++ backward) forward (λ xs. In x xs → Leads p x.play x.leads)
    (λ e h. elim (in_cases x forward backward h)
    [ inl a ↦ forward_sound p x l r free a | inr b ↦ backward_sound p x l r free b ])
    (λ e h. forward_sound p x l r free h)

-- all that is found is legal
pub all_sound : (p : Standing) (x : Reach) → p.first ≤ 6 → p.second ≤ 6 → In x (all_of p) → Leads p x.play x.leads
all_sound p x l r =
    let forced : Bool = (most_of p == 1) && larger_first p in
    cond_both forced (reaches p.checkers (max p.first p.second ∷ []) 25 []) (free_of p)
    (λ xs. In x xs → Leads p x.play x.leads)
    (λ e h. let (one, larger) = and_parts (most_of p == 1) (larger_first p) e in
    forced_sound p x l r (eqb-true (most_of p) 1 one) larger h)
    (λ e h. free_sound p x l r e h)

-- a front of a length is what is taken of it
front_taken : (dice all : List ℕ) (n : ℕ) → IsFront dice all → length dice ≡ n → dice ≡ take n all
front_taken dice all n (rest, e) long =
    sym (ap (λ xs. take n xs) (sym e) ∙ ap (λ k. take k (dice ++ rest)) (sym long) ∙ take-append_seam dice rest)

-- a play and where it leads
abbrev pub reach : List Hop → Checkers → Reach
reach steps q = record { play = steps; leads = q }

-- some element of the list leads to the same arrangement by a play that is no less
abbrev pub Covered : List Reach → Reach → Type 0
Covered ys x = (y : Reach) × In y ys × (y.leads ≡ x.leads) × (is_gt (play_cmp x.play y.play) ≡ false)

-- a list covers what is in it
here : (xs : List Reach) (x : Reach) → In x xs → Covered xs x
here xs x h = (x, h, refl, itself x.play)

-- a front covers for the whole
covered_left : (xs ys : List Reach) (x : Reach) → Covered xs x → Covered (xs ++ ys) x
covered_left xs ys x (y, h, e, g) = (y, in_left y xs ys h, e, g)

-- so does an end
covered_right : (xs ys : List Reach) (x : Reach) → Covered ys x → Covered (xs ++ ys) x
covered_right xs ys x (y, h, e, g) = (y, in_right y xs ys h, e, g)

-- a longest run that falls, by a front of the dice in one order, covers what it is no less than
fall_covers : (p : Standing) (a b : ℕ) (dice : List ℕ) (steps play : List Hop) (q : Checkers)
    → length play ≡ most_of p → IsFront dice (held_of a b) → Run p.checkers dice play q → Falls 25 play
    → is_gt (play_cmp steps play) ≡ false → Covered (all_in_order p a b) (reach steps q)
fall_covers p a b dice steps play q long front run falls no_less =
    let n = sym (run_long p.checkers q dice play run) ∙ long in
    let found = reaches_complete p.checkers q dice 25 [] play run falls in (
      reach play q,
      subst (λ ds. In (reach play q) (reaches p.checkers ds 25 [])) (front_taken dice (held_of a b) (most_of p) front n)
          found,
      refl,
      no_less,
    )

-- a longest run by a front of equal dice is covered
front_covered : (p : Standing) (a b : ℕ) (dice : List ℕ) (steps : List Hop) (q : Checkers) → a ≤ 6 → b ≤ 6
    → are_two a b ≡ false → length steps ≡ most_of p → IsFront dice (held_of a b) → Run p.checkers dice steps q
    → Covered (all_in_order p a b) (reach steps q)
front_covered p a b dice steps q l r one long front run =
    let ok = front_dice dice front.0 (subst AreDice (sym front.1) (dice_held a b l r)) in
    let f = fallen p.checkers q dice steps ok run in
    let (die, all) = held_alike a b one in
    let alike = front_all die dice front.0 (subst (AllAre die) (sym front.1) all) in
    let as_long : length f.play ≡ most_of p =
    run_long p.checkers q dice f.play f.run ∙ sym (run_long p.checkers q dice steps run) ∙ long in
    fall_covers p a b dice steps f.play q as_long front f.run
    (falls_alike p.checkers q die dice 25 f.play alike f.run f.tried) f.no_less

-- so is one by a front of two different ones
pair_covered : (p : Standing) (a b : ℕ) (dice : List ℕ) (steps : List Hop) (q : Checkers) → 0 < a → 0 < b → a ≢ b
    → length steps ≡ most_of p → IsFront dice (held_of a b) → Run p.checkers dice steps q
    → Covered (all_in_order p a b) (reach steps q) ⊎ Covered (all_in_order p b a) (reach steps q)
pair_covered p a b [] [] q l r apart long front run =
    inl (fall_covers p a b [] [] [] q long front run tt (itself []))
pair_covered p a b [] (step ∷ steps) q l r apart long front run = absurd run
pair_covered p a b (d ∷ dice) [] q l r apart long front run = absurd run
pair_covered p a b (d ∷ []) (step ∷ []) q l r apart long front run =
    inl (fall_covers p a b (d ∷ []) (step ∷ []) (step ∷ []) q long front run (let (s, one, e) = run in one.source.1, tt)
    (itself (step ∷ [])))
pair_covered p a b (d ∷ []) (step ∷ next ∷ steps) q l r apart long front (s, one, run) = absurd run
pair_covered p a b (d ∷ e ∷ dice) (step ∷ []) q l r apart long front (s, one, run) = absurd run
pair_covered p a b (d ∷ e ∷ []) (step ∷ next ∷ []) q l r apart long front run =
    let both : d ∷ e ∷ front.0 ≡ a ∷ b ∷ [] = front.1 ∙ two_held a b l r apart in
    let first : d ≡ a = cc in
    let second : e ≡ b = cc in
    let turned : IsFront (e ∷ d ∷ []) (held_of b a) =
    ([], (λ i. second i ∷ first i ∷ []) ∙ sym (two_held b a r l (λ s. apart (sym s)))) in
    elim (
    two_fall p.checkers q d e step next (subst (λ k. 0 < k) (sym first) l) (subst (λ k. 0 < k) (sym second) r) run
    ) [
      | inl falls ↦
          inl (fall_covers p a b (d ∷ e ∷ []) (step ∷ next ∷ []) (step ∷ next ∷ []) q long front run falls
          (itself (step ∷ next ∷ [])))
      | inr (run_too, falls, no_less) ↦
          inr (fall_covers p b a (e ∷ d ∷ []) (step ∷ next ∷ []) (next ∷ step ∷ []) q long turned run_too falls no_less)
    ]
pair_covered p a b (d ∷ e ∷ []) (step ∷ next ∷ more ∷ steps) q l r apart long front (s, one, (t, two, run)) = absurd run
pair_covered p a b (d ∷ e ∷ f ∷ dice) steps q l r apart long front run =
    let both : d ∷ e ∷ f ∷ dice ++ front.0 ≡ a ∷ b ∷ [] = front.1 ∙ two_held a b l r apart in
    let three : f ∷ dice ++ front.0 ≡ [] = cc in
    absurd cc

-- so is one by two different dice
two_is_covered : (p : Standing) (steps : List Hop) (q : Checkers) → are_two p.first p.second ≡ true
    → length steps ≡ most_of p → RunOf p.checkers (held p) steps q
    → Covered (all_in_order p p.first p.second ++ all_in_order p p.second p.first) (reach steps q)
two_is_covered p steps q two long (dice, part, run) =
    let forward : List Reach = all_in_order p p.first p.second in
    let backward : List Reach = all_in_order p p.second p.first in
    let (l, r, apart) = two_from p.first p.second two in
    elim (front_from_part p.first p.second dice part) [
      | inl front ↦ elim (pair_covered p p.first p.second dice steps q l r apart long front run) [
        | inl c ↦ covered_left forward backward (reach steps q) c
        | inr c ↦ covered_right forward backward (reach steps q) c
      ]
      | inr front ↦
          elim (pair_covered p p.second p.first dice steps q r l (λ s. apart (sym s)) long front run) [
            | inl c ↦ covered_right forward backward (reach steps q) c
            | inr c ↦ covered_left forward backward (reach steps q) c
          ]
    ]

-- and one by equal dice, or by one
one_is_covered : (p : Standing) (steps : List Hop) (q : Checkers) → p.first ≤ 6 → p.second ≤ 6
    → are_two p.first p.second ≡ false → length steps ≡ most_of p → RunOf p.checkers (held p) steps q
    → Covered (all_in_order p p.first p.second) (reach steps q)
one_is_covered p steps q l r one long (dice, part, run) =
    let turned = alike p.first p.second (λ l r apart. both_ways _ one (two_is p.first p.second l r apart)) in
    elim (front_from_part p.first p.second dice part) [
      | inl front ↦ front_covered p p.first p.second dice steps q l r one long front run
      | inr front ↦
          front_covered p p.first p.second dice steps q l r one long (subst (IsFront dice) turned front) run
    ]

-- if there is no such rule, each longest run is covered
free_complete : (p : Standing) (steps : List Hop) (q : Checkers) → p.first ≤ 6 → p.second ≤ 6
    → length steps ≡ most_of p → RunOf p.checkers (held p) steps q → Covered (free_of p) (reach steps q)
free_complete p steps q l r long run =
    let forward : List Reach = all_in_order p p.first p.second in
    cond_both (are_two p.first p.second) (forward ++ all_in_order p p.second p.first) forward
    (λ xs. Covered xs (reach steps q))
    (λ e. two_is_covered p steps q e long run)
    (λ e. one_is_covered p steps q l r e long run)

-- a step by one die falls
falls_single : (p q : Checkers) (die : ℕ) (steps : List Hop) → Run p (die ∷ []) steps q → Falls 25 steps
falls_single p q die [] run = absurd run
falls_single p q die (step ∷ []) (r, one, run) = (one.source.1, tt)
falls_single p q die (step ∷ next ∷ steps) (r, one, run) = absurd run

-- by only the larger die, each legal play is tried
forced_complete : (p : Standing) (steps : List Hop) (q : Checkers) → p.first ≤ 6 → p.second ≤ 6 → length steps ≡ 1
    → larger_first p ≡ true → Leads p steps q
    → In (reach steps q) (reaches p.checkers (max p.first p.second ∷ []) 25 [])
forced_complete p steps q l r one larger (legal, (dice, part, run)) =
    let die : ℕ = max p.first p.second in
    let is = larger_from p larger in
    let g = is.0 in
    let (to, by) = legal.larger die is.0 one (playable p.checkers die (omega (arith, g.0)) (omega arith) is.1) in
    let same : to ≡ q = run_one p.checkers to q (die ∷ []) dice steps by run in
    subst (λ c. In (reach steps c) (reaches p.checkers (die ∷ []) 25 [])) same
    (reaches_complete p.checkers to (die ∷ []) 25 [] steps by (falls_single p.checkers to die steps by))

-- for all that is legal something no less is found
pub all_complete : (p : Standing) (steps : List Hop) (q : Checkers) → p.first ≤ 6 → p.second ≤ 6 → Leads p steps q
    → Covered (all_of p) (reach steps q)
all_complete p steps q l r h =
    let forced : Bool = (most_of p == 1) && larger_first p in
    let test =
    and_parts (length steps == most_of p)
    (cond ((length steps == 1) && larger_first p) (follows p.checkers (max p.first p.second ∷ []) steps)
    (in_order p steps)) (legal_complete p steps l r h.0) in
    let long : length steps ≡ most_of p = eqb-true (length steps) (most_of p) test.0 in
    let by_larger : List Reach = reaches p.checkers (max p.first p.second ∷ []) 25 [] in
    cond_both forced by_larger (free_of p) (λ xs. Covered xs (reach steps q))
    (λ e. let (one, larger) = and_parts (most_of p == 1) (larger_first p) e in
    here by_larger (reach steps q) (forced_complete p steps q l r (long ∙ eqb-true (most_of p) 1 one) larger h))
    (λ e. free_complete p steps q l r long h.1)
