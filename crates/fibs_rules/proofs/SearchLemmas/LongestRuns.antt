-- The most dice that can be played in one order: some run plays so many, and none plays more.
use Rattle.std.proofs.Common.{◌≡◌, ℕ, suc, ◌-◌, ◌≤◌, inl, inr, List, [], ◌∷◌, ◌++◌, length, refl, sym, ap, ◌∙◌, arith}
use Rattle.fibs_rules.specs.Hop.{Hop}
use Rattle.fibs_rules.specs.Checkers.{Checkers}
use Rattle.fibs_rules.specs.Runs.{Run, longest}
use Rattle.fibs_rules.specs.Search.{AreDice}
use Rattle.fibs_rules.proofs.RuleLemmas.OneChecker.{one_sound, one_complete}
use Rattle.fibs_rules.proofs.SearchLemmas.BestSteps.{best_of-least, best_of-reached}

-- a run has as many steps as dice
pub run_long : (p q : Checkers) (dice : List ℕ) (steps : List Hop) → Run p dice steps q → length steps ≡ length dice
run_long p q [] [] run = refl
run_long p q [] (step ∷ steps) run = absurd run
run_long p q (die ∷ dice) [] run = absurd run
run_long p q (die ∷ dice) (step ∷ steps) (r, one, run) = ap suc (run_long r q dice steps run)

-- no run by a front of these dice is longer
pub longest-most : (p q : Checkers) (dice rest : List ℕ) (steps : List Hop) → Run p dice steps q
    → length steps ≤ longest p (dice ++ rest)
longest-most p q [] rest [] run = omega arith
longest-most p q [] rest (step ∷ steps) run = absurd run
longest-most p q (die ∷ dice) rest [] run = absurd run
longest-most p q (die ∷ dice) rest (step ∷ steps) (r, one, run) =
    let ih = longest-most r q dice rest steps run in
    let (at, found) = one_complete p r step.source step.target die one in
    let least =
    best_of-least (λ source q. suc (longest q (dice ++ rest))) p r die step.source 25 one.source.0 one.source.1 found in
    omega (arith, ih, least)

-- a run by a front of these dice, of this many steps
pub record Reached (p : Checkers) (dice : List ℕ) (n : ℕ) : Type 0 where
  pub used : List ℕ
  pub rest : List ℕ
  pub front : used ++ rest ≡ dice
  pub steps : List Hop
  pub to : Checkers
  pub run : Run p used steps to
  pub long : length steps ≡ n

-- some run by a front of these dice is that long
pub longest-reached : (p : Checkers) (dice : List ℕ) → AreDice dice → Reached p dice (longest p dice)
longest-reached p [] ok = record { used = []; rest = []; front = refl; steps = []; to = p; run = refl; long = refl }
longest-reached p (die ∷ dice) ok = elim (best_of-reached (λ source q. suc (longest q dice)) p die 25) [
  | inl none ↦ record { used = []; rest = die ∷ dice; front = refl; steps = []; to = p; run = refl; long = sym none }
  | inr b ↦
      let more = longest-reached b.to dice ok.2 in
      record {
        used = die ∷ more.used;
        rest = more.rest;
        front = ap (λ ds. die ∷ ds) more.front;
        steps = record { source = b.from; target = b.from - die } ∷ more.steps;
        to = more.to;
        run = (b.to, one_sound p b.to b.from die (omega (arith, ok.1)) b.found, more.run);
        long = ap suc more.long ∙ sym b.is;
      }
]
