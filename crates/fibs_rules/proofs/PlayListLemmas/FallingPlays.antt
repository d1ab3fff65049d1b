-- Each legal play has one that is no less, leads to the same arrangement, and whose steps fall.
use Rattle.std.proofs.Common.{◌≡◌, ℕ, ◌<◌, ◌⊎◌, inl, inr, List, [], ◌∷◌, ◌++◌, false, refl, sym, subst, ◌∙◌, arith}
use Rattle.std.specs.Ordering.{is_gt}
use Rattle.std.proofs.lemmas.Bool.{cases_lt, both_ways}
use Rattle.fibs_rules.specs.Hop.{Hop}
use Rattle.fibs_rules.specs.Checkers.{Checkers}
use Rattle.fibs_rules.specs.Runs.{Run, held_of}
use Rattle.fibs_rules.specs.LegalPlays.{play_cmp, are_two}
use Rattle.fibs_rules.proofs.PlayListLemmas.Reaches.{Tried, Falls}
use Rattle.fibs_rules.proofs.RuleLemmas.DiceParts.{held, none, single, different, equal}
use Rattle.fibs_rules.proofs.RuleLemmas.HighestFirst.{top_equal, lower_first}
use Rattle.fibs_rules.proofs.RuleLemmas.StepsSwap.{dice_swap}
use Rattle.fibs_rules.proofs.SearchLemmas.LegalTest.{two_is}

-- all of these dice are this one
abbrev pub AllAre : ℕ → List ℕ → Type 0
AllAre die [] = Unit {0}
AllAre die (d ∷ dice) = (d ≡ die) × AllAre die dice

-- so are those of a front
pub front_all : (die : ℕ) (dice rest : List ℕ) → AllAre die (dice ++ rest) → AllAre die dice
front_all die [] rest all = tt
front_all die (d ∷ dice) rest (same, all) = (same, front_all die dice rest all)

-- dice that are not two different ones are equal
pub held_alike : (a b : ℕ) → are_two a b ≡ false → (die : ℕ) × AllAre die (held_of a b)
held_alike a b one = elim (held a b) [
  | none e f ↦ (0, subst (AllAre 0) (sym e) tt)
  | single d is pos e f ↦ (d, subst (AllAre d) (sym e) (refl, tt))
  | different apart l r e f ↦ absurd (both_ways _ one (two_is a b l r apart))
  | equal pos e f ↦ (a, subst (AllAre a) (sym e) (refl, (refl, (refl, (refl, tt)))))
]

-- by equal dice, a run that is tried falls
pub falls_alike : (p q : Checkers) (die : ℕ) (dice : List ℕ) (top : ℕ) (steps : List Hop) → AllAre die dice
    → Run p dice steps q → Tried top dice steps → Falls top steps
falls_alike p q die [] top [] all run tried = tt
falls_alike p q die [] top (step ∷ steps) all run tried = absurd run
falls_alike p q die (d ∷ dice) top [] all run tried = absurd run
falls_alike p q die (d ∷ []) top (step ∷ []) all run (low, tried) = (low, tt)
falls_alike p q die (d ∷ []) top (step ∷ next ∷ steps) all (r, one, run) tried = absurd run
falls_alike p q die (d ∷ e ∷ dice) top (step ∷ steps) (same, all) (r, one, run) (low, tried) = (
  low,
  falls_alike r q die (e ∷ dice) step.source steps all run
      (subst (λ k. Tried k (e ∷ dice) steps) (top_equal d e dice step.source (all.0 ∙ sym same)) tried),
)

-- two steps fall, or do so in the other order and are no less
pub two_fall : (p q : Checkers) (a b : ℕ) (step next : Hop) → 0 < a → 0 < b
    → Run p (a ∷ b ∷ []) (step ∷ next ∷ []) q
    → Falls 25 (step ∷ next ∷ [])
    ⊎ (Run p (b ∷ a ∷ []) (next ∷ step ∷ []) q × Falls 25 (next ∷ step ∷ [])
    × (is_gt (play_cmp (step ∷ next ∷ []) (next ∷ step ∷ [])) ≡ false))
two_fall p q a b step next l r (s, one, (t, two, same)) = elim (cases_lt step.source next.source) [
  | inl lower ↦
      let (other, first, second) =
      dice_swap p s t step.source step.target next.source next.target a b l r lower one two in
      inr (
        (other, first, (t, second, same)),
        (two.source.1, (omega arith, tt)),
        lower_first step next (next ∷ []) (step ∷ []) lower,
      )
  | inr no_lower ↦ inl (one.source.1, (no_lower, tt))
]
