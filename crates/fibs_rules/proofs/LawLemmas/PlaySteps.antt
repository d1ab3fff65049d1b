-- Legal plays, and plays of the type, have at most four steps, each one that a checker can make.
use Rattle.std.proofs.Common.{◌≡◌, ℕ, ◌<◌, ◌≤◌, ◌==◌, Bool, true, false, if◌then◌else◌, List, [], ◌∷◌, ◌++◌, length, get_or, take, map, refl, sym, ap, subst, inl, inr, arith, length-append, length-take}
use Rattle.std.specs.Prelude.{All}
use Rattle.std.specs.List.{AllByRecursion}
use Rattle.std.proofs.lemmas.Bool.Decides.{nat_tests}
use Rattle.std.proofs.lemmas.List.{length-map}
use Rattle.std.proofs.lemmas.List.Elements.{All-from_recursion, All-map}
use Rattle.fibs_rules.specs.Hop.{Hop, IsStep, hop_of}
use Rattle.fibs_rules.specs.PlayValue.{IsPlay, hops_of}
use Rattle.fibs_rules.specs.Checkers.{Checkers}
use Rattle.fibs_rules.specs.OneChecker.{One}
use Rattle.fibs_rules.specs.Runs.{Run, RunOf, IsPart, held_of, held}
use Rattle.fibs_rules.specs.Laws.{LegalPlaysAreSteps}
use Rattle.fibs_rules.specs.declared.step.Step.{Step}
use Rattle.fibs_rules.specs.declared.play.Play.{Play}

-- no die is 0
abbrev AllDice : List ℕ → Type 0
AllDice [] = Unit {0}
AllDice (x ∷ xs) = (0 < x) × AllDice xs

-- a die that is shown
some_die : (a : ℕ) → (a == 0) ≡ false → 0 < a
some_die a h = grind (arith, nat_tests)

-- if the dice are different and the first is not shown, the second is
other_die : (a b : ℕ) → (a == b) ≡ false → (a == 0) ≡ true → 0 < b
other_die a b h k = grind (arith, nat_tests)

-- at most four dice, none 0
abbrev Few : List ℕ → Type 0
Few dice = AllDice dice × (length dice ≤ 4)

-- such are the dice held
held_few : (a b : ℕ) → Few (held_of a b)
held_few a b = go (a == b) (a == 0) (b == 0) refl refl refl
  where
    go : (x y z : Bool) → (a == b) ≡ x → (a == 0) ≡ y → (b == 0) ≡ z
        → Few
        (if x then (if y then [] else a ∷ a ∷ a ∷ a ∷ []) else
        (if y then b ∷ [] else (if z then a ∷ [] else a ∷ b ∷ [])))
    go true true z e f g = (tt, omega arith)
    go true false z e f g = let l = some_die a f in ((l, (l, (l, (l, tt)))), omega arith)
    go false true z e f g = ((other_die a b e f, tt), omega arith)
    go false false true e f g = ((some_die a f, tt), omega arith)
    go false false false e f g = ((some_die a f, (some_die b g, tt)), omega arith)

-- a die of the middle, and the others
middle : (before : List ℕ) (die : ℕ) (after : List ℕ) → AllDice (before ++ die ∷ after)
    → (0 < die) × AllDice (before ++ after)
middle [] die after h = h
middle (x ∷ before) die after h = let m = middle before die after h.1 in (m.0, (h.0, m.1))

-- a part of some dice has no more of them, and none 0
part_few : (dice all : List ℕ) → IsPart dice all → AllDice all → AllDice dice × (length dice ≤ length all)
part_few [] all h k = (tt, omega arith)
part_few (die ∷ dice) all h k =
    let before : List ℕ = h.0 in
    let after : List ℕ = h.1 in
    let e : before ++ die ∷ after ≡ all = h.2 in
    let m = middle before die after (subst AllDice (sym e) k) in
    let rest = part_few dice (before ++ after) h.3 m.1 in
    ((m.0, rest.0), omega (arith, rest.1, ap length e, length-append before (die ∷ after), length-append before after))

-- one checker's way is a step
one_step : (p : Checkers) (from to die : ℕ) (q : Checkers) → One p from to die q → 0 < die
    → (0 < from) × (from ≤ 25) × (to ≤ 24)
one_step p from to die q o some =
    let s = o.source in (
      s.0,
      s.1,
      elim o.goes [
        | inl x ↦ omega (arith, x.onto)
        | inr r ↦ elim r [
          | inl x ↦ omega (arith, x.onto)
          | inr t ↦ elim t [
            | inl x ↦ omega (arith, x.off)
            | inr x ↦ omega (arith, x.off)
          ]
        ]
      ],
    )

-- a run is of steps, as many as its dice
run_steps : (p : Checkers) (dice : List ℕ) (steps : List Hop) (q : Checkers) → Run p dice steps q → AllDice dice
    → AllByRecursion IsStep steps × (length steps ≡ length dice)
run_steps p [] [] q h k = (tt, refl)
run_steps p [] (step ∷ steps) q h k = absurd h
run_steps p (die ∷ dice) [] q h k = absurd h
run_steps p (die ∷ dice) (step ∷ steps) q h k =
    let rest = run_steps h.0 dice steps q h.2 k.1 in
    ((one_step p step.source step.target die h.0 h.1 k.0, rest.0), omega (arith, rest.1))

-- a legal play is at most four steps
pub legal_plays_are_steps : LegalPlaysAreSteps
legal_plays_are_steps p steps l =
    let q : Checkers = l.run.0 in
    let r : RunOf p.checkers (held p) steps q = l.run.1 in
    let few = held_few p.first p.second in
    let part = part_few r.0 (held p) r.1 few.0 in
    let run = run_steps p.checkers r.0 steps q r.2 part.0 in
    (All-from_recursion IsStep steps run.0, omega (arith, run.1, part.1, few.1))

-- a play's steps are steps
steps_are_steps : (steps : List Step) → All IsStep (map hop_of steps)
steps_are_steps steps = All-map IsStep hop_of steps (λ k d lt. let step = get_or steps k d in step.valid)

-- and every play of the type is at most four steps
pub plays_are_steps : (play : Play) → IsPlay (hops_of play)
plays_are_steps play =
    let steps : List Step = take play.len play.steps in
    (steps_are_steps steps, omega (arith, play.short, length-map steps hop_of, length-take play.len play.steps))
