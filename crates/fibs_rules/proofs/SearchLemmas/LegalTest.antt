-- The test of a play is the rule of legal plays.
use Rattle.std.proofs.Common.{◌≡◌, ◌≢◌, ℕ, ◌-◌, ◌<◌, ◌≤◌, inl, inr, max, List, [], ◌∷◌, ◌++◌, length, Option, Some, None, Bool, true, refl, sym, ap, subst, ◌∙◌, arith, cond, eq-eqb}
use Rattle.std.specs.Prelude.{◌&&◌, ◌||◌, ◌==◌, not, nat_lt}
use Rattle.std.proofs.lemmas.Bool.{cases_lt, and_parts, and_from, or_cases, or_left, or_right, both_ways, eqb-true, eqb-false, ltb-true, lt-ltb, ne_eqb, cond-true, cond-false, cases_Bool, not-true, not_from_false, false≢true}
use Rattle.fibs_rules.specs.Hop.{Hop}
use Rattle.fibs_rules.specs.Checkers.{Checkers}
use Rattle.fibs_rules.specs.OneChecker.{One, one_of}
use Rattle.fibs_rules.specs.Runs.{Run, RunOf, IsPart, CanPlay, Standing, held, held_of, longest, most_of, follows, passes, can_play}
use Rattle.fibs_rules.specs.LegalPlays.{IsLarger, LegalPlay, are_two, larger_first, legal_of}
use Rattle.fibs_rules.specs.Search.{AreDice}
use Rattle.fibs_rules.proofs.RuleLemmas.OneChecker.{one_sound, one_complete, chosen_true}
use Rattle.fibs_rules.proofs.SearchLemmas.LongestRuns.{longest-most, longest-reached}
use Rattle.fibs_rules.proofs.RuleLemmas.DiceParts.{IsFront, front_from_part, part_from_held, part_from_swapped, dice_held, two_held}
use Rattle.fibs_rules.proofs.SearchLemmas.MostDice.{most_is}

-- a run of these steps by a front of these dice
pub record Follows (p : Checkers) (dice : List ℕ) (steps : List Hop) : Type 0 where
  pub used : List ℕ
  pub front : IsFront used dice
  pub to : Checkers
  pub run : Run p used steps to

-- what passes is an arrangement
passes_some : (test : Checkers → Bool) (o : Option Checkers) → passes test o ≡ true
    → (q : Checkers) × (o ≡ Some q) × (test q ≡ true)
passes_some test None e = absurd (false≢true e)
passes_some test (Some q) e = (q, refl, e)

-- a way to the place that the die gives
one_at : (p q : Checkers) (from to die : ℕ) → to ≡ from - die → One p from (from - die) die q → One p from to die q
one_at p q from to die e one = subst (λ k. One p from k die q) (sym e) one

-- steps that follow are a run by a front of the dice
pub follows_sound : (p : Checkers) (dice : List ℕ) (steps : List Hop) → AreDice dice → follows p dice steps ≡ true
    → Follows p dice steps
follows_sound p dice [] ok e = record { used = []; front = (dice, refl); to = p; run = refl }
follows_sound p [] (step ∷ steps) ok e = absurd (false≢true e)
follows_sound p (die ∷ dice) (step ∷ steps) ok e =
    let (aim, on) =
    and_parts (step.target == step.source - die) (passes (λ q. follows q dice steps) (one_of p step.source die))
    e in
    let (q, found, more) = passes_some (λ q. follows q dice steps) (one_of p step.source die) on in
    let f = follows_sound q dice steps ok.2 more in
    let at : step.target ≡ step.source - die = eqb-true step.target (step.source - die) aim in
    record {
      used = die ∷ f.used;
      front = (f.front.0, ap (λ ds. die ∷ ds) f.front.1);
      to = f.to;
      run = (
        q,
        one_at p q step.source step.target die at (one_sound p q step.source die (omega (arith, ok.1)) found),
        f.run,
      );
    }

-- a run by a front of the dice follows
pub follows_complete : (p q : Checkers) (dice rest : List ℕ) (steps : List Hop) → Run p dice steps q
    → follows p (dice ++ rest) steps ≡ true
follows_complete p q [] rest [] run = refl
follows_complete p q [] rest (step ∷ steps) run = absurd run
follows_complete p q (die ∷ dice) rest [] run = absurd run
follows_complete p q (die ∷ dice) rest (step ∷ steps) (r, one, run) =
    let (at, found) = one_complete p r step.source step.target die one in
    let on : passes (λ q. follows q (dice ++ rest) steps) (one_of p step.source die) ≡ true =
    ap (passes (λ q. follows q (dice ++ rest) steps)) found ∙ follows_complete r q dice rest steps run in
    and_from _ _ (eq-eqb step.target (step.source - die) at) on

-- a die that can be played
pub played_long : (p : Checkers) (die : ℕ) → CanPlay p die → 0 < longest p (die ∷ [])
played_long p die (from, to, q, one) =
    let h = longest-most p q (die ∷ []) [] (record { source = from; target = to } ∷ []) (q, one, refl) in
    omega (arith, h)

-- a run with a step by one die
single_run : (p q : Checkers) (die : ℕ) (used rest : List ℕ) (steps : List Hop) → Run p used steps q
    → used ++ rest ≡ die ∷ [] → 0 < length steps → Run p (die ∷ []) steps q
single_run p q die [] rest [] run e some = absurd (omega arith)
single_run p q die [] rest (step ∷ steps) run e some = absurd run
single_run p q die (d ∷ used) rest [] run e some = absurd run
single_run p q die (d ∷ []) rest (step ∷ steps) run e some =
    let same : d ≡ die = cc in subst (λ k. Run p (k ∷ []) (step ∷ steps) q) same run
single_run p q die (d ∷ c ∷ used) rest (step ∷ steps) run e some = absurd cc

-- it plays the die
plays_die : (p q : Checkers) (die : ℕ) (steps : List Hop) → Run p (die ∷ []) steps q → CanPlay p die
plays_die p q die [] run = absurd run
plays_die p q die (step ∷ steps) (r, one, run) = (step.source, step.target, r, one)

-- if a step by a die is found, the die can be played
pub playable : (p : Checkers) (die : ℕ) → 0 < die → die ≤ 6 → 0 < longest p (die ∷ []) → CanPlay p die
playable p die lo hi pos =
    let r = longest-reached p (die ∷ []) (lo, hi, tt) in
    let l = r.long in
    plays_die p r.to die r.steps (single_run p r.to die r.used r.rest r.steps r.run r.front (omega (arith, l)))

-- what the test of two dice decides
pub two_from : (a b : ℕ) → are_two a b ≡ true → (0 < a) × (0 < b) × (a ≢ b)
two_from a b e =
    let (l, f) = and_parts (nat_lt 0 a) (nat_lt 0 b && not (a == b)) e in
    let (r, apart) = and_parts (nat_lt 0 b) (not (a == b)) f in
    (ltb-true 0 a l, ltb-true 0 b r, λ same. eqb-false a b (not-true _ apart) same)

-- and when it is true
pub two_is : (a b : ℕ) → 0 < a → 0 < b → a ≢ b → are_two a b ≡ true
two_is a b l r apart = and_from _ _ (lt-ltb 0 a l) (and_from _ _ (lt-ltb 0 b r) (not_from_false _ (ne_eqb a b apart)))

-- what the test of the larger die decides
pub larger_from : (p : Standing) → larger_first p ≡ true
    → IsLarger p (max p.first p.second) × (0 < longest p.checkers (max p.first p.second ∷ []))
larger_from p e =
    let (two, some) = and_parts (are_two p.first p.second) (can_play p.checkers (max p.first p.second)) e in
    let (first, second, apart) = two_from p.first p.second two in
    ((first, second, apart, refl), ltb-true 0 _ (and_parts (nat_lt 0 (max p.first p.second)) _ some).1)

-- and when it is true
larger_is : (p : Standing) (die : ℕ) → IsLarger p die → CanPlay p.checkers die → larger_first p ≡ true
larger_is p die h can =
    let some : 0 < longest p.checkers (max p.first p.second ∷ []) = rw (sym h.3) (played_long p.checkers die can) in
    let pos : 0 < max p.first p.second = let l = h.0 in omega arith in
    and_from _ _ (two_is p.first p.second h.0 h.1 h.2) (and_from _ _ (lt-ltb 0 _ pos) (lt-ltb 0 _ some))

-- the larger of two dice is a part of them
either_part : (a b die : ℕ) → die ≡ max a b → IsPart (die ∷ []) (a ∷ b ∷ [])
either_part a b die e = elim (cases_lt a b) [
  | inl less ↦ let same : die ≡ b = omega arith in (a ∷ [], [], cc, tt)
  | inr more ↦ let same : die ≡ a = omega arith in ([], b ∷ [], cc, tt)
]

-- the larger die is one held
pub part_of_larger : (p : Standing) (die : ℕ) → IsLarger p die → IsPart (die ∷ []) (held p)
part_of_larger p die h = rw (two_held p.first p.second h.0 h.1 h.2) (either_part p.first p.second die h.3)

-- the test in either order of the dice
abbrev pub in_order : Standing → List Hop → Bool
in_order p steps =
    follows p.checkers (held_of p.first p.second) steps || follows p.checkers (held_of p.second p.first) steps

-- steps that follow in either order are a run
order_sound : (p : Standing) (steps : List Hop) → p.first ≤ 6 → p.second ≤ 6 → in_order p steps ≡ true
    → (q : Checkers) × RunOf p.checkers (held p) steps q
order_sound p steps l r e =
    elim
    (or_cases (follows p.checkers (held_of p.first p.second) steps)
    (follows p.checkers (held_of p.second p.first) steps) e) [
      | inl t ↦ let f = follows_sound p.checkers (held_of p.first p.second) steps (dice_held p.first p.second l r) t in
          (f.to, (f.used, part_from_held p.first p.second f.used f.front, f.run))
      | inr t ↦ let f = follows_sound p.checkers (held_of p.second p.first) steps (dice_held p.second p.first r l) t in
          (f.to, (f.used, part_from_swapped p.first p.second f.used f.front, f.run))
    ]

-- a run follows in one of the orders
order_complete : (p : Standing) (steps : List Hop) (q : Checkers) → RunOf p.checkers (held p) steps q
    → in_order p steps ≡ true
order_complete p steps q (dice, part, run) = elim (front_from_part p.first p.second dice part) [
  | inl front ↦ or_left _ _ (rw front.1 at (follows_complete p.checkers q dice front.0 steps run))
  | inr front ↦ or_right _ _ (rw front.1 at (follows_complete p.checkers q dice front.0 steps run))
]

-- a step that follows by the larger die is a run of it
larger_sound : (p : Standing) (steps : List Hop) (die : ℕ) → 0 < die → die ≤ 6 → length steps ≡ 1
    → follows p.checkers (die ∷ []) steps ≡ true → (q : Checkers) × Run p.checkers (die ∷ []) steps q
larger_sound p steps die lo hi one e =
    let f = follows_sound p.checkers (die ∷ []) steps (lo, hi, tt) e in
    (f.to, single_run p.checkers f.to die f.used f.front.0 steps f.run f.front.1 (omega (arith, one)))

-- the test is the rule
pub legal_sound : (p : Standing) (steps : List Hop) → p.first ≤ 6 → p.second ≤ 6 → legal_of p steps ≡ true
    → LegalPlay p steps
legal_sound p steps l r e =
    let die : ℕ = max p.first p.second in
    let forced : Bool = (length steps == 1) && larger_first p in
    let (long, kind) =
    and_parts (length steps == most_of p) (cond forced (follows p.checkers (die ∷ []) steps) (in_order p steps))
    e in
    let most : length steps ≡ most_of p = eqb-true (length steps) (most_of p) long in
    let longest_run : (others : List Hop) (q : Checkers) → RunOf p.checkers (held p) others q
    → length others ≤ length steps = λ others q run. rw most ((most_is p l r).most others q run) in
    elim (chosen_true forced (follows p.checkers (die ∷ []) steps) (in_order p steps) kind) [
      | inl w ↦
          let (one, larger) = and_parts (length steps == 1) (larger_first p) w.0 in
          let is = larger_from p larger in
          let found =
          larger_sound p steps die (let h = is.0 in omega arith) (omega arith) (eqb-true (length steps) 1 one)
          w.1 in
          record {
            run = (found.0, (die ∷ [], part_of_larger p die is.0, found.1));
            longest = longest_run;
            larger =
                λ other h single can. (found.0, subst (λ k. Run p.checkers (k ∷ []) steps found.0) (sym h.3) found.1);
          }
      | inr w ↦ record {
        run = order_sound p steps l r w.1;
        longest = longest_run;
        larger =
            λ other h single can. absurd
            (both_ways _ w.0 (and_from _ _ (eq-eqb (length steps) 1 single) (larger_is p other h can)));
      }
    ]

-- a legal play passes the test
pub legal_complete : (p : Standing) (steps : List Hop) → p.first ≤ 6 → p.second ≤ 6 → LegalPlay p steps
    → legal_of p steps ≡ true
legal_complete p steps l r h =
    let die : ℕ = max p.first p.second in
    let forced : Bool = (length steps == 1) && larger_first p in
    let most = most_is p l r in
    let (best, to, run, long) = most.reached in
    let above = h.longest best to run in
    let below = most.most steps h.run.0 h.run.1 in
    let same : length steps ≡ most_of p = omega arith in
    and_from _ _ (eq-eqb (length steps) (most_of p) same) (elim (cases_Bool forced) [
      | inl forces ↦
          let (one, larger) = and_parts (length steps == 1) (larger_first p) forces in
          let is = larger_from p larger in
          let f =
          h.larger die is.0 (eqb-true (length steps) 1 one)
          (playable p.checkers die (let g = is.0 in omega arith) (omega arith) is.1) in
          cond-true forced _ _ forces ∙ follows_complete p.checkers f.0 (die ∷ []) [] steps f.1
      | inr free ↦ cond-false forced _ _ free ∙ order_complete p steps h.run.0 h.run.1
    ])
