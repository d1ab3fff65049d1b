-- The most dice of either order are the length of a longest run.
use Rattle.std.proofs.Common.{◌≡◌, ℕ, ◌≤◌, inl, inr, List, length, arith}
use Rattle.std.proofs.lemmas.Bool.{cases_lt}
use Rattle.fibs_rules.specs.Hop.{Hop}
use Rattle.fibs_rules.specs.Checkers.{Checkers}
use Rattle.fibs_rules.specs.Runs.{Run, RunOf, Standing, held, held_of, IsMost, longest, most_of}
use Rattle.fibs_rules.proofs.SearchLemmas.LongestRuns.{longest-most, longest-reached, Reached}
use Rattle.fibs_rules.proofs.RuleLemmas.DiceParts.{IsFront, front_from_part, part_from_held, part_from_swapped, dice_held}

-- no run by a front of dice is longer than the most of them
front_most : (p q : Checkers) (dice all : List ℕ) (steps : List Hop) → IsFront dice all → Run p dice steps q
    → length steps ≤ longest p all
front_most p q dice all steps (rest, e) run = rw e at (longest-most p q dice rest steps run)

-- no run of a position is longer than the most
run_most : (p : Standing) (steps : List Hop) (q : Checkers) → RunOf p.checkers (held p) steps q
    → length steps ≤ most_of p
run_most p steps q (dice, part, run) = elim (front_from_part p.first p.second dice part) [
  | inl front ↦ let h = front_most p.checkers q dice (held_of p.first p.second) steps front run in omega (arith, h)
  | inr front ↦ let h = front_most p.checkers q dice (held_of p.second p.first) steps front run in omega (arith, h)
]

-- a run of that many steps
abbrev HasRun : Standing → ℕ → Type 0
HasRun p n = (steps : List Hop) × (q : Checkers) × RunOf p.checkers (held p) steps q × (length steps ≡ n)

-- what is reached in the first order is a run
forward_run : (p : Standing) (n : ℕ) → Reached p.checkers (held_of p.first p.second) n → HasRun p n
forward_run p n r = (r.steps, r.to, (r.used, part_from_held p.first p.second r.used (r.rest, r.front), r.run), r.long)

-- and in the second
backward_run : (p : Standing) (n : ℕ) → Reached p.checkers (held_of p.second p.first) n → HasRun p n
backward_run p n r =
    (r.steps, r.to, (r.used, part_from_swapped p.first p.second r.used (r.rest, r.front), r.run), r.long)

-- some run is as long as the most
most_run : (p : Standing) → p.first ≤ 6 → p.second ≤ 6 → HasRun p (most_of p)
most_run p l r =
    let forward = longest p.checkers (held_of p.first p.second) in
    let backward = longest p.checkers (held_of p.second p.first) in
    elim (cases_lt forward backward) [
      | inl less ↦ let e : most_of p ≡ backward = omega arith in
          rw e
          (backward_run p backward
          (longest-reached p.checkers (held_of p.second p.first) (dice_held p.second p.first r l)))
      | inr more ↦ let e : most_of p ≡ forward = omega arith in
          rw e
          (forward_run p forward
          (longest-reached p.checkers (held_of p.first p.second) (dice_held p.first p.second l r)))
    ]

-- the most is the length of a longest run
pub most_is : (p : Standing) → p.first ≤ 6 → p.second ≤ 6 → IsMost p (most_of p)
most_is p l r = record { reached = most_run p l r; most = run_most p }
