-- The greatest worth of a step: no step is worth more, and some step is worth as much.
use Rattle.std.proofs.Common.{◌≡◌, ℕ, suc, zero, ◌<◌, ◌≤◌, ◌⊎◌, inl, inr, max, Option, Some, None, refl, sym, ap, ◌∙◌, arith}
use Rattle.std.proofs.lemmas.Bool.{cases_eq, cases_lt}
use Rattle.fibs_rules.specs.Checkers.{Checkers}
use Rattle.fibs_rules.specs.Runs.{best_of, score}
use Rattle.fibs_rules.specs.OneChecker.{one_of}

-- no step leads to a worth above the best
pub best_of-least : (worth : ℕ → Checkers → ℕ) (p q : Checkers) (die from n : ℕ) → 0 < from → from ≤ n
    → one_of p from die ≡ Some q → worth from q ≤ best_of worth p die n
unfolding best_of
best_of-least worth p q die from zero lo hi e = absurd (omega arith)
best_of-least worth p q die from (suc n) lo hi e =
    elim (cases_eq from (suc n)) [
      | inl same ↦ let f : score (worth (suc n)) (one_of p (suc n) die) ≡ worth from q =
          ap (λ k. score (worth k) (one_of p k die)) (sym same) ∙ ap (score (worth from)) e in omega (arith, f)
      | inr apart ↦ let ih = best_of-least worth p q die from n lo (omega arith) e in omega (arith, ih)
    ]

-- a place from which the best is reached
pub record Best (worth : ℕ → Checkers → ℕ) (p : Checkers) (die n : ℕ) : Type 0 where
  pub from : ℕ
  pub to : Checkers
  pub source : (0 < from) × (from ≤ n)
  pub found : one_of p from die ≡ Some to
  pub is : best_of worth p die n ≡ worth from to

-- one place more
best_of-suc : (worth : ℕ → Checkers → ℕ) (p : Checkers) (die n : ℕ) (o : Option Checkers) → one_of p (suc n) die ≡ o
    → best_of worth p die (suc n) ≡ max (best_of worth p die n) (score (worth (suc n)) o)
unfolding best_of
best_of-suc worth p die n o e = ap (λ o. max (best_of worth p die n) (score (worth (suc n)) o)) e

-- a worth that is reached is reached from more places
wider : (worth : ℕ → Checkers → ℕ) (p : Checkers) (die n : ℕ) → best_of worth p die (suc n) ≡ best_of worth p die n
    → ((best_of worth p die n ≡ 0) ⊎ Best worth p die n) → (best_of worth p die (suc n) ≡ 0) ⊎ Best worth p die (suc n)
wider worth p die n e (inl none) = inl (e ∙ none)
wider worth p die n e (inr b) =
    inr (record { from = b.from; to = b.to; source = (b.source.0, omega arith); found = b.found; is = e ∙ b.is })

-- so with one place more the best is 0 or reached
best_of-next : (worth : ℕ → Checkers → ℕ) (p : Checkers) (die n : ℕ) (o : Option Checkers) → one_of p (suc n) die ≡ o
    → ((best_of worth p die n ≡ 0) ⊎ Best worth p die n) → (best_of worth p die (suc n) ≡ 0) ⊎ Best worth p die (suc n)
best_of-next worth p die n None e w = wider worth p die n (best_of-suc worth p die n None e ∙ omega arith) w
best_of-next worth p die n (Some q) e w =
    let step = best_of-suc worth p die n (Some q) e in
    elim (cases_lt (best_of worth p die n) (worth (suc n) q)) [
      | inl better ↦
          inr
          (record { from = suc n; to = q; source = (omega arith, omega arith); found = e; is = omega (arith, step) })
      | inr worse ↦ wider worth p die n (omega (arith, step)) w
    ]

-- the best is 0 or reached
pub best_of-reached : (worth : ℕ → Checkers → ℕ) (p : Checkers) (die n : ℕ)
    → (best_of worth p die n ≡ 0) ⊎ Best worth p die n
unfolding best_of
best_of-reached worth p die zero = inl refl
best_of-reached worth p die (suc n) =
    best_of-next worth p die n (one_of p (suc n) die) refl (best_of-reached worth p die n)

-- what no arrangement is worth more than, the best is not
pub best_of-most : (worth : ℕ → Checkers → ℕ) (p : Checkers) (die n most : ℕ)
    → ((source : ℕ) (q : Checkers) → worth source q ≤ most) → best_of worth p die n ≤ most
best_of-most worth p die n most h = elim (best_of-reached worth p die n) [
  | inl none ↦ omega (arith, none)
  | inr b ↦ let i = b.is in let k = h b.from b.to in omega (arith, i, k)
]

-- from more places the best is no less
pub best_of-mono : (worth : ℕ → Checkers → ℕ) (p : Checkers) (die n m : ℕ) → n ≤ m
    → best_of worth p die n ≤ best_of worth p die m
best_of-mono worth p die n m le = elim (best_of-reached worth p die n) [
  | inl none ↦ omega (arith, none)
  | inr b ↦
      let i = b.is in
      let k = best_of-least worth p b.to die b.from m b.source.0 (let s = b.source.1 in omega (arith, s)) b.found in
      omega (arith, i, k)
]

-- if each arrangement is worth no more, the best is no more
pub best_of-below : (less more : ℕ → Checkers → ℕ) (p : Checkers) (die n m : ℕ) → n ≤ m
    → ((source : ℕ) (q : Checkers) → source ≤ n → less source q ≤ more source q)
    → best_of less p die n ≤ best_of more p die m
best_of-below less more p die n m le h = elim (best_of-reached less p die n) [
  | inl none ↦ omega (arith, none)
  | inr b ↦
      let i = b.is in
      let k = best_of-least more p b.to die b.from m b.source.0 (let s = b.source.1 in omega (arith, s)) b.found in
      let l = h b.from b.to b.source.1 in
      omega (arith, i, k, l)
]
