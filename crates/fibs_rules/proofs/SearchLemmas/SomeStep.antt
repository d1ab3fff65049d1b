-- Some run has a step exactly if one of the dice shown can be played.
use Rattle.std.proofs.Common.{◌≡◌, ℕ, ◌<◌, ◌≤◌, ◌⊎◌, inl, inr, List, [], ◌∷◌, ◌++◌, length, true, refl, subst, arith}
use Rattle.std.specs.Prelude.{◌||◌, nat_lt}
use Rattle.std.proofs.lemmas.Bool.{and_parts, and_from, or_cases, or_left, or_right, ltb-true, lt-ltb}
use Rattle.fibs_rules.specs.Hop.{Hop}
use Rattle.fibs_rules.specs.Checkers.{Checkers}
use Rattle.fibs_rules.specs.Runs.{Run, IsPart, Standing, held, CanPlay, CanMove, longest, can_play}
use Rattle.fibs_rules.proofs.RuleLemmas.DiceParts.{front_from_part, shown_part, held_shown}
use Rattle.fibs_rules.proofs.SearchLemmas.LegalTest.{played_long, playable}

-- a die shown that can be played is a run of one step
by_one : (p : Standing) (die : ℕ) → (die ≡ p.first) ⊎ (die ≡ p.second) → die ≤ 6 → can_play p.checkers die ≡ true
    → CanMove p
by_one p die is le e =
    let (some, long) = and_parts (nat_lt 0 die) (nat_lt 0 (longest p.checkers (die ∷ []))) e in
    let pos = ltb-true 0 die some in
    let (from, to, q, one) = playable p.checkers die pos le (ltb-true 0 _ long) in (
      record { source = from; target = to } ∷ [],
      q,
      (die ∷ [], shown_part p.first p.second die is pos, (q, one, refl)),
      omega arith,
    )

-- if the test is true, some run has a step
pub can_sound : (p : Standing) → p.first ≤ 6 → p.second ≤ 6
    → (can_play p.checkers p.first || can_play p.checkers p.second) ≡ true → CanMove p
can_sound p l r e = elim (or_cases (can_play p.checkers p.first) (can_play p.checkers p.second) e) [
  | inl t ↦ by_one p p.first (inl refl) l t
  | inr t ↦ by_one p p.second (inr refl) r t
]

-- a die shown that can be played makes the test true
can_be : (p : Standing) (die : ℕ) → (die ≡ p.first) ⊎ (die ≡ p.second) → can_play p.checkers die ≡ true
    → (can_play p.checkers p.first || can_play p.checkers p.second) ≡ true
can_be p die (inl is) e = or_left _ _ (subst (λ d. can_play p.checkers d ≡ true) is e)
can_be p die (inr is) e = or_right _ _ (subst (λ d. can_play p.checkers d ≡ true) is e)

-- a die by which a checker can go passes the test
can_first : (p : Checkers) (die : ℕ) → 0 < die → CanPlay p die → can_play p die ≡ true
can_first p die pos can = and_from _ _ (lt-ltb 0 die pos) (lt-ltb 0 _ (played_long p die can))

-- two cases, the other way round
swap : {A B : Type 0} → A ⊎ B → B ⊎ A
swap (inl a) = inr a
swap (inr b) = inl b

-- a run with a step makes the test true
run_can : (p : Standing) (q : Checkers) (dice : List ℕ) (steps : List Hop) → IsPart dice (held p)
    → Run p.checkers dice steps q → 0 < length steps
    → (can_play p.checkers p.first || can_play p.checkers p.second) ≡ true
run_can p q dice [] part run pos = absurd (omega arith)
run_can p q [] (step ∷ steps) part run pos = absurd run
run_can p q (die ∷ dice) (step ∷ steps) part (r, one, run) pos =
    elim (front_from_part p.first p.second (die ∷ dice) part) [
      | inl front ↦
          let (is, some) = held_shown p.first p.second die (dice ++ front.0) front.1 in
          can_be p die is (can_first p.checkers die some (step.source, step.target, r, one))
      | inr front ↦
          let (is, some) = held_shown p.second p.first die (dice ++ front.0) front.1 in
          can_be p die (swap is) (can_first p.checkers die some (step.source, step.target, r, one))
    ]

-- if some run has a step, the test is true
pub can_complete : (p : Standing) → CanMove p → (can_play p.checkers p.first || can_play p.checkers p.second) ≡ true
can_complete p (steps, q, (dice, part, run), pos) = run_can p q dice steps part run pos
