-- What the search through runs reaches: only runs, and all that are tried.
use Rattle.std.proofs.Common.{◌≡◌, ℕ, suc, zero, ◌<◌, ◌≤◌, ◌⊎◌, inl, inr, List, [], ◌∷◌, ◌++◌, Option, Some, None, refl, sym, ap, subst, ◌∙◌, arith, append_assoc, append-nil}
use Rattle.std.proofs.lemmas.Bool.{cases_eq}
use Rattle.fibs_rules.specs.Hop.{Hop}
use Rattle.fibs_rules.specs.Checkers.{Checkers}
use Rattle.fibs_rules.specs.Runs.{Run}
use Rattle.fibs_rules.specs.OneChecker.{one_of}
use Rattle.fibs_rules.specs.Search.{AreDice, Reach, onward, reach_by, next_top, reaches}
use Rattle.fibs_rules.proofs.PlayListLemmas.VisitLoop.{hop_by}
use Rattle.fibs_rules.proofs.RuleLemmas.OneChecker.{one_sound, one_complete}

-- membership, by recursion
abbrev pub In : Reach → List Reach → Type 0
In x [] = ⊥
In x (y ∷ ys) = (x ≡ y) ⊎ In x ys

-- what is in a front is in the whole
pub in_left : (x : Reach) (xs ys : List Reach) → In x xs → In x (xs ++ ys)
in_left x [] ys h = absurd h
in_left x (y ∷ xs) ys (inl e) = inl e
in_left x (y ∷ xs) ys (inr h) = inr (in_left x xs ys h)

-- what is in an end is in the whole
pub in_right : (x : Reach) (xs ys : List Reach) → In x ys → In x (xs ++ ys)
in_right x [] ys h = h
in_right x (y ∷ xs) ys h = inr (in_right x xs ys h)

-- what is in the whole is in one of them
pub in_cases : (x : Reach) (xs ys : List Reach) → In x (xs ++ ys) → In x xs ⊎ In x ys
in_cases x [] ys h = inr h
in_cases x (y ∷ xs) ys (inl e) = inl (inl e)
in_cases x (y ∷ xs) ys (inr h) = elim (in_cases x xs ys h) [ inl a ↦ inl (inr a) | inr b ↦ inr b ]

-- what is reached over a first step
abbrev Over : (Hop → Checkers → List Reach) → Checkers → ℕ → Reach → Type 0
Over more p die x = (from : ℕ) × (q : Checkers) × (one_of p from die ≡ Some q) × In x (more (hop_by from die) q)

-- what goes on goes on from an arrangement
in_onward : (f : Checkers → List Reach) (o : Option Checkers) (x : Reach) → In x (onward f o)
    → (q : Checkers) × (o ≡ Some q) × In x (f q)
in_onward f None x h = absurd h
in_onward f (Some q) x h = (q, refl, h)

-- what is reached by a die is reached over one step of it
in_reach_by : (more : Hop → Checkers → List Reach) (p : Checkers) (die n : ℕ) (x : Reach) → In x (reach_by more p die n)
    → Over more p die x
unfolding reach_by
in_reach_by more p die zero x h = absurd h
in_reach_by more p die (suc n) x h =
    elim (in_cases x (reach_by more p die n) (onward (more (hop_by (suc n) die)) (one_of p (suc n) die)) h) [
      | inl a ↦ in_reach_by more p die n x a
      | inr b ↦ let (q, e, m) = in_onward (more (hop_by (suc n) die)) (one_of p (suc n) die) x b in (suc n, q, e, m)
    ]

-- and over each step of it
reach_by_in : (more : Hop → Checkers → List Reach) (p q : Checkers) (die from n : ℕ) (x : Reach) → 0 < from → from ≤ n
    → one_of p from die ≡ Some q → In x (more (hop_by from die) q) → In x (reach_by more p die n)
unfolding reach_by
reach_by_in more p q die from zero x lo hi e h = absurd (omega arith)
reach_by_in more p q die from (suc n) x lo hi e h = elim (cases_eq from (suc n)) [
  | inl here ↦ in_right x (reach_by more p die n) (onward (more (hop_by (suc n) die)) (one_of p (suc n) die))
      (subst (λ k. In x (onward (more (hop_by k die)) (one_of p k die))) here
      (subst (λ o. In x (onward (more (hop_by from die)) o)) (sym e) h))
  | inr below ↦
      in_left x (reach_by more p die n) (onward (more (hop_by (suc n) die)) (one_of p (suc n) die))
      (reach_by_in more p q die from n x lo (omega arith) e h)
]

-- a run that goes on from a play
abbrev pub GoesOn : Checkers → List ℕ → List Hop → Reach → Type 0
GoesOn p dice play x = (steps : List Hop) × (x.play ≡ play ++ steps) × Run p dice steps x.leads

-- what is reached goes on by a run
pub reaches_sound : (p : Checkers) (dice : List ℕ) (top : ℕ) (play : List Hop) (x : Reach) → AreDice dice
    → In x (reaches p dice top play) → GoesOn p dice play x
reaches_sound p [] top play x ok (inl e) =
    ([], ap (λ (r : Reach). r.play) e ∙ sym (append-nil play), sym (ap (λ (r : Reach). r.leads) e))
reaches_sound p [] top play x ok (inr h) = absurd h
reaches_sound p (die ∷ dice) top play x ok h =
    let (from, q, found, more) =
    in_reach_by (λ hop q. reaches q dice hop.source (play ++ hop ∷ [])) p die top x h in
    let (steps, is, run) = reaches_sound q dice from (play ++ hop_by from die ∷ []) x ok.2 more in (
      hop_by from die ∷ steps,
      is ∙ append_assoc play (hop_by from die ∷ []) steps,
      (q, one_sound p q from die (omega (arith, ok.1)) found, run),
    )

-- each step is from a place that is tried
abbrev pub Tried : ℕ → List ℕ → List Hop → Type 0
Tried top [] steps = Unit {0}
Tried top (die ∷ dice) [] = Unit {0}
Tried top (die ∷ dice) (step ∷ steps) = (step.source ≤ top) × Tried (next_top die dice step.source) dice steps

-- each step is from no higher place than the one before
abbrev pub Falls : ℕ → List Hop → Type 0
Falls top [] = Unit {0}
Falls top (step ∷ steps) = (step.source ≤ top) × Falls step.source steps

-- each run whose steps fall is reached
pub reaches_complete : (p q : Checkers) (dice : List ℕ) (top : ℕ) (play steps : List Hop) → Run p dice steps q
    → Falls top steps → In (record { play = play ++ steps; leads = q }) (reaches p dice top play)
reaches_complete p q [] top play [] run falls = inl (λ i. record { play = append-nil play i; leads = sym run i })
reaches_complete p q [] top play (step ∷ steps) run falls = absurd run
reaches_complete p q (die ∷ dice) top play [] run falls = absurd run
reaches_complete p q (die ∷ dice) top play (step ∷ steps) (r, one, run) (low, falls) =
    let (at, found) = one_complete p r step.source step.target die one in
    let hop : step ≡ hop_by step.source die = λ i. record { source = step.source; target = at i } in
    let next : ℕ = step.source in
    let ih = reaches_complete r q dice next (play ++ step ∷ []) steps run falls in
    let here : In (record { play = (play ++ step ∷ []) ++ steps; leads = q })
    (reaches r dice next (play ++ hop_by step.source die ∷ [])) =
    subst
    (λ s. In (record { play = (play ++ step ∷ []) ++ steps; leads = q }) (reaches r dice next (play ++ s ∷ []))) hop
    ih in
    let all =
    reach_by_in (λ hop q. reaches q dice hop.source (play ++ hop ∷ [])) p r die step.source top
    (record { play = (play ++ step ∷ []) ++ steps; leads = q }) one.source.0 low found here in
    subst (λ ms. In (record { play = ms; leads = q }) (reaches p (die ∷ dice) top play))
    (append_assoc play (step ∷ []) steps) all
