-- The rule that is named of a move is the first that it breaks.
use Rattle.std.proofs.Common.{◌≡◌, ◌≢◌, ◌++◌, ◌∷◌, ◌⊎◌, ◌<◌, ◌+◌, ℕ, List, Option, Some, None, Result, Ok, Err, true, false, map, length, take, get_or, ap, ◌∙◌, refl, sym, inl, inr, subst, arith, below_more}
use Rattle.std.specs.Prelude.{IfSome, OnOk, slice_get, is_some}
use Rattle.std.proofs.lemmas.List.Elements.{All-cons}
use Rattle.std.proofs.lemmas.Option.{slice_get_read}
use Rattle.fibs_fields.specs.Board.{BoardFields, field_of}
use Rattle.fibs_fields.specs.FieldReading.{natural}
use Rattle.fibs_position.specs.DirectionOf.{direction_of}
use Rattle.fibs_position.specs.NumbersOf.{counted}
use Rattle.fibs_position.specs.OwnView.{standing_of}
use Rattle.fibs_position.specs.declared.direction.Direction.{Direction}
use Rattle.fibs_position.specs.declared.numbers.Numbers.{Numbers}
use Rattle.fibs_rules.specs.Checkers.{Checkers}
use Rattle.fibs_rules.specs.Hop.{Hop, hop_of}
use Rattle.fibs_rules.specs.Runs.{Standing}
use Rattle.fibs_rules.specs.declared.step.Step.{Step}
use Rattle.fibs_advice.specs.BrokenRules.{BreaksIt, IsFirstIfAny, IsNamed, IsNamedOf, KeepsUntil, SaysBroken, is_held, is_played_by, named_said, own_after}
use Rattle.fibs_advice.specs.declared.rules.BrokenRule.{BrokenRule}
use Rattle.fibs_advice.specs.declared.rules.BrokenRule.TheVariants as B

-- what comes first after an element for which a fact does not hold
pub later : {X : Type 0} (fits : X → Type 0) (x : X) (xs : List X) (o : Option X) → ¬ fits x → IsFirstIfAny fits xs o
    → IsFirstIfAny fits (x ∷ xs) o
later fits x xs None fails is = All-cons (λ y. ¬ fits y) x xs fails is
later fits x xs (Some y) fails is = inr (fails, is)

-- a checker that comes from the bar, or after all have, breaks no rule of entering
pub no_bar : (c : Checkers) (first second : ℕ) (before : List Step) (step : Step)
    → (step.source ≡ 25) ⊎ (own_after c before 25 ≡ 0) → ¬ BreaksIt c first second before step B.Bar
no_bar c first second before step (inl at) q = grind (arith, at, q.0)
no_bar c first second before step (inr none) q = grind (arith, none, q.0)

-- no checker is where the step begins
pub is_empty : (c : Checkers) (first second : ℕ) (before : List Step) (step : Step)
    → own_after c before step.source ≡ 0 → BreaksIt c first second before step (B.Empty step.source)
is_empty c first second before step none = (grind (arith, none), tt)

-- one is
pub no_empty : (c : Checkers) (first second : ℕ) (before : List Step) (step : Step)
    → own_after c before step.source ≢ 0 → ¬ BreaksIt c first second before step (B.Empty step.source)
no_empty c first second before step some q = grind (arith, some, q.0)

-- neither die plays the step
pub is_distance : (c : Checkers) (first second : ℕ) (before : List Step) (step : Step)
    → is_played_by first (hop_of step) ≡ false → is_played_by second (hop_of step) ≡ false
    → BreaksIt c first second before step (B.Distance step)
is_distance c first second before step one other = (grind (arith, one, other), tt)

-- a die does
pub no_distance : (c : Checkers) (first second : ℕ) (before : List Step) (step : Step)
    → (is_played_by first (hop_of step) ≡ true) ⊎ (is_played_by second (hop_of step) ≡ true)
    → ¬ BreaksIt c first second before step (B.Distance step)
no_distance c first second before step (inl one) q = grind (arith, one, q.0)
no_distance c first second before step (inr other) q = grind (arith, other, q.0)

-- the opponent holds the place where the step ends
pub holds_it : (c : Checkers) (first second : ℕ) (before : List Step) (step : Step)
    → is_held c step.target ≡ true → BreaksIt c first second before step (B.Held step.target)
holds_it c first second before step held = (grind (arith, held), tt)

-- he does not
pub no_held : (c : Checkers) (first second : ℕ) (before : List Step) (step : Step)
    → is_held c step.target ≡ false → ¬ BreaksIt c first second before step (B.Held step.target)
no_held c first second before step free q = grind (arith, free, q.0)

-- a step at a place is there
step_at : (steps : List Step) (place : ℕ) (step : Step) → place < length steps → step ≡ get_or steps place step
    → slice_get steps place ≡ Some step
step_at steps place step within at = slice_get_read steps (length steps) place step refl within at

-- one more step breaks no rule
pub one_more : (c : Checkers) (first second place : ℕ) (found : Option BrokenRule) (steps before : List Step)
    (step : Step)
    → place < length steps → before ≡ take place steps → step ≡ get_or steps place step
    → KeepsUntil c first second steps place → IsNamedOf c first second before step found → is_some found ≡ false
    → KeepsUntil c first second steps (place + 1)
one_more c first second place None steps before step within front at kept is none =
    below_more (λ k. IfSome (slice_get steps k) (λ s. IsNamedOf c first second (take k steps) s None)) place kept
    (subst (λ o. IfSome o (λ s. IsNamedOf c first second (take place steps) s None))
    (sym (step_at steps place step within at)) (subst (λ b. IsNamedOf c first second b step None) front is))
one_more c first second place (Some rule) steps before step within front at kept is none = absurd cc

-- a rule that a step breaks is named of the move, if no step before it breaks one
pub of_step : (s : Standing) (first second place : ℕ) (found : Option BrokenRule) (steps before : List Step)
    (step : Step) (hops : List Hop) → map hop_of steps ≡ hops → place < length steps → before ≡ take place steps
    → step ≡ get_or steps place step → KeepsUntil s.checkers first second steps place
    → IsNamedOf s.checkers first second before step found → is_some found ≡ true
    → (all : List Step) × (map hop_of all ≡ hops) × IsNamed s first second all found
of_step s first second place None steps before step hops same within front at kept is some = absurd cc
of_step s first second place (Some rule) steps before step hops same within front at kept is some = (
  steps,
  same,
  inl (record {
    at = place;
    step = step;
    rule = rule;
    is = step_at steps place step within at;
    kept = kept;
    named = refl;
    broken = subst (λ b. IsNamedOf s.checkers first second b step (Some rule)) front is;
  }),
)

-- what is named of a move on a board is said of it
pub says_named : {E : Type 0} (r : Result (Unit {0}) E) (numbers : Numbers) (b : BoardFields) (hops : List Hop)
    (old new : List ℕ) (standing : Standing) (first second : ℕ) (way : Direction) (found : Option BrokenRule)
    → standing ≡ standing_of b → first ≡ natural (field_of b 34) → second ≡ natural (field_of b 35)
    → way ≡ counted numbers (direction_of b)
    → (all : List Step) × (map hop_of all ≡ hops) × IsNamed standing first second all found
    → OnOk r (new ≡ old ++ named_said way found) → OnOk r (SaysBroken numbers b hops old new)
says_named (Err e) numbers b hops old new standing first second way found stands one other goes is said = tt
says_named (Ok u) numbers b hops old new standing first second way found stands one other goes is said = record {
  steps = is.0;
  named = found;
  are = is.1;
  is = subst (λ s. IsNamed s (natural (field_of b 34)) (natural (field_of b 35)) is.0 found) stands
      (subst (λ n. IsNamed standing n (natural (field_of b 35)) is.0 found) one
      (subst (λ n. IsNamed standing first n is.0 found) other is.2));
  said = said ∙ ap (λ w. old ++ named_said w found) goes;
}
