-- Which rule a move breaks, as a terminal names it (rules of backgammon).
use Rattle.std.specs.Prelude.{◌≡◌, ◌⊎◌, ◌++◌, ◌∷◌, ◌+◌, ◌-◌, ◌<◌, ◌≤◌, ◌==◌, ◌&&◌, ◌||◌, ℕ, List, [], All, codes, count_by, decimal, length, map, nat_lt, nat_le, Bool, not, true, false, slice_get, slice_index, take, Option, Some, None, IfSome, if◌then◌else◌}
use Rattle.fibs_fields.specs.Board.{BoardFields, field_of}
use Rattle.fibs_fields.specs.FieldReading.{natural}
use Rattle.fibs_position.specs.DirectionOf.{direction_of, line_place}
use Rattle.fibs_position.specs.First.{IsFirst}
use Rattle.fibs_position.specs.NumbersOf.{counted}
use Rattle.fibs_position.specs.OwnView.{standing_of}
use Rattle.fibs_position.specs.declared.direction.Direction.{Direction}
use Rattle.fibs_position.specs.declared.numbers.Numbers.{Numbers}
use Rattle.fibs_rules.specs.Checkers.{Checkers}
use Rattle.fibs_rules.specs.Hop.{Hop, hop_of}
use Rattle.fibs_rules.specs.Runs.{IsMost, Standing}
use Rattle.fibs_rules.specs.declared.step.Step.{Step}
use Rattle.fibs_advice.specs.declared.rules.BrokenRule.{BrokenRule}
use Rattle.fibs_advice.specs.declared.rules.BrokenRule.TheVariants as B

-- the other side holds a place on the board with two checkers or more
abbrev pub is_held : Checkers → ℕ → Bool
is_held p place = nat_le 1 place && (nat_le place 24 && nat_le 2 (slice_index p.other place))

-- how many places a step takes
abbrev pub distance : Hop → ℕ
distance step = step.source - step.target

-- a die may play a step: the distance is the die, or a checker goes off by a larger one
abbrev pub is_played_by : ℕ → Hop → Bool
is_played_by die step = (distance step == die) || ((step.target == 0) && nat_lt (distance step) die)

-- the player's checkers on a place after the first steps of a move: those on the board, and who came, without who left
abbrev pub own_after : Checkers → List Step → ℕ → ℕ
own_after c steps place = slice_index c.own place + count_by (λ step. (hop_of step).target == place) steps
    - count_by (λ step. (hop_of step).source == place) steps

-- a checker of the player is farther back than a place then
pub record IsBehind (c : Checkers) (steps : List Step) (place : ℕ) : Type 0 where
  pub behind : ℕ
  pub farther : place < behind
  pub on_board : behind ≤ 25
  pub is_there : 0 < own_after c steps behind

-- a rule that is named of a step holds of it after the steps before it, with these dice
abbrev pub holds : Checkers → ℕ → ℕ → List Step → Hop → BrokenRule → Bool
holds c first second before step B.Bar = not (step.source == 25) && nat_lt 0 (own_after c before 25)
holds c first second before step (B.Empty place) = (place == step.source) && (own_after c before place == 0)
holds c first second before step (B.Held place) = (place == step.target) && is_held c place
holds c first second before step B.Outside = step.target == 0
holds c first second before step B.Behind =
    (step.target == 0) && (not (distance step == first) && not (distance step == second))
holds c first second before step (B.Distance other) =
    ((hop_of other).source == step.source)
    && (not (is_played_by first step) && not (is_played_by second step))
holds c first second before step (B.MoreDice most) = false
holds c first second before step B.Larger = false

-- if a rule of bearing off is named, a checker is farther back: outside of the home, or behind the one that goes off
abbrev pub IsBack : Checkers → List Step → Hop → BrokenRule → Type 0
IsBack c before step B.Outside = IsBehind c before 6
IsBack c before step B.Behind = IsBehind c before step.source
IsBack c before step rule = Unit {0}

-- a step breaks a rule after those before it, with these dice
abbrev pub BreaksIt : Checkers → ℕ → ℕ → List Step → Step → BrokenRule → Type 0
BreaksIt c first second before step rule =
    (holds c first second before (hop_of step) rule ≡ true) × IsBack c before (hop_of step) rule

-- the rules of bearing off, in the order in which one is named
abbrev pub rules_off : List BrokenRule
rules_off = B.Outside ∷ B.Behind ∷ []

-- the rules that a step may break, in the order in which one is named
abbrev pub rules_of : Step → List BrokenRule
rules_of step = B.Bar ∷ B.Empty step.source ∷ B.Distance step ∷ B.Held step.target ∷ rules_off

-- the first element of a list for which a fact holds; none if it holds of none
abbrev pub IsFirstIfAny : {X : Type 0} → (X → Type 0) → List X → Option X → Type 0
IsFirstIfAny fits xs (Some x) = IsFirst fits xs x
IsFirstIfAny fits xs None = All (λ x. ¬ fits x) xs

-- what is named of a step after those before it: of the rules, the first that it breaks
abbrev pub IsNamedOf : Checkers → ℕ → ℕ → List Step → Step → Option BrokenRule → Type 0
IsNamedOf c first second before step named = IsFirstIfAny (BreaksIt c first second before step) (rules_of step) named

-- none of the first steps of a move, so many, breaks a rule after those before it
abbrev pub KeepsUntil : Checkers → ℕ → ℕ → List Step → ℕ → Type 0
KeepsUntil c first second steps count = (at : ℕ) → at < count
    → IfSome (slice_get steps at) (λ step. IsNamedOf c first second (take at steps) step None)

-- the rule of the dice that is named of a move of so many steps: as many dice as can be played are to be, or, if it has
-- one step, the larger die
abbrev pub dice_rule : ℕ → ℕ → Option BrokenRule
dice_rule most steps =
    if nat_lt steps most then Some (B.MoreDice most) else if steps == 1 then Some B.Larger else None

-- a rule is named of the first step of a move that breaks one
pub record IsOfStep (c : Checkers) (first second : ℕ) (steps : List Step) (found : Option BrokenRule) : Type 0 where
  pub at : ℕ
  pub step : Step
  pub rule : BrokenRule
  pub is : slice_get steps at ≡ Some step
  pub kept : KeepsUntil c first second steps at
  pub named : found ≡ Some rule
  pub broken : IsNamedOf c first second (take at steps) step (Some rule)

-- no step of a move breaks a rule: what is named of it is of the dice
pub record IsOfDice (standing : Standing) (first second : ℕ) (steps : List Step) (found : Option BrokenRule)
    : Type 0 where
  pub most : ℕ
  pub most_dice : IsMost standing most
  pub kept : KeepsUntil standing.checkers first second steps (length steps)
  pub named : found ≡ dice_rule most (length steps)

-- what is named of a move: a rule of its steps, else of the dice
abbrev pub IsNamed : Standing → ℕ → ℕ → List Step → Option BrokenRule → Type 0
IsNamed standing first second steps named =
    IsOfStep standing.checkers first second steps named ⊎ IsOfDice standing first second steps named

-- a place by the numbers by which the player goes this way
abbrev pub place_said : Direction → ℕ → List ℕ
place_said way place =
    if place == 0 then codes "off" else if nat_le 25 place then codes "the bar" else decimal (line_place way place)

-- words, a place and a full stop
abbrev pub of_place : List ℕ → Direction → ℕ → List ℕ
of_place words way place = words ++ (place_said way place ++ codes ".")

-- words, a number and a full stop
abbrev pub of_number : List ℕ → ℕ → List ℕ
of_number words number = words ++ (decimal number ++ codes ".")

-- words, and from where to where a step goes
abbrev pub of_way : List ℕ → Direction → ℕ → ℕ → List ℕ
of_way words way source target = words ++ (place_said way source ++ of_place (codes " to ") way target)

-- how many dice must be played
abbrev pub more_dice_said : ℕ → List ℕ
more_dice_said most =
    if most == 2 then codes "Both dice must be played." else
    if most == 1 then codes "A die must be played." else
    of_number (codes "As many dice as can be must be played: ") most

-- how a rule is said that is broken, by the numbers by which the player goes this way
abbrev pub rule_said : Direction → BrokenRule → List ℕ
rule_said way B.Bar = codes "A checker on the bar enters first."
rule_said way (B.Empty place) = of_place (codes "You have no checker on ") way place
rule_said way (B.Held place) = of_place (codes "Your opponent holds ") way place
rule_said way B.Outside = codes "No checker goes off before all are home."
rule_said way B.Behind = codes "A checker farther back goes first."
rule_said way (B.Distance step) =
    of_way (codes "No die plays from ") way (hop_of step).source (hop_of step).target
rule_said way (B.MoreDice most) = more_dice_said most
rule_said way B.Larger = codes "The larger die must be played."

-- how it is said; nothing if none is named
abbrev pub named_said : Direction → Option BrokenRule → List ℕ
named_said way None = []
named_said way (Some rule) = rule_said way rule

-- what is named of a move on a board, by its dice, is said in the numbers that the user reads
pub record SaysBroken (numbers : Numbers) (b : BoardFields) (hops : List Hop) (old new : List ℕ) : Type 0 where
  pub steps : List Step
  pub named : Option BrokenRule
  pub are : map hop_of steps ≡ hops
  pub is : IsNamed (standing_of b) (natural (field_of b 34)) (natural (field_of b 35)) steps named
  pub said : new ≡ old ++ named_said (counted numbers (direction_of b)) named
