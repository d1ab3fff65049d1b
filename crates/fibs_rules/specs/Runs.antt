-- Steps played one after another by the dice held (rules of backgammon).
use Rattle.std.specs.Prelude.{◌≡◌, ℕ, zero, suc, ◌<◌, ◌≤◌, ◌==◌, ◌-◌, ◌&&◌, ◌||◌, Bool, true, false, max, nat_lt, List, [], ◌∷◌, length, ◌++◌, Option, Some, None, if◌then◌else◌}
use Rattle.fibs_rules.specs.Hop.{Hop}
use Rattle.fibs_rules.specs.Checkers.{Checkers}
use Rattle.fibs_rules.specs.OneChecker.{One, one_of}

-- as many steps as dice, each by its die, from an arrangement through to another
abbrev pub Run : Checkers → List ℕ → List Hop → Checkers → Type 0
Run p [] [] q = p ≡ q
Run p [] (step ∷ steps) q = ⊥
Run p (die ∷ dice) [] q = ⊥
Run p (die ∷ dice) (step ∷ steps) q = (r : Checkers) × One p step.source step.target die r × Run r dice steps q

-- the dice that two shown dice give: different ones each once, equal ones four times, and one that is 0 none
abbrev pub held_of : ℕ → ℕ → List ℕ
held_of a b =
    if a == b then (if a == 0 then [] else a ∷ a ∷ a ∷ a ∷ [])
    else (if a == 0 then b ∷ [] else (if b == 0 then a ∷ [] else a ∷ b ∷ []))

-- some order of a part of the dice held: each die in turn is one of those that are left
abbrev pub IsPart : List ℕ → List ℕ → Type 0
IsPart [] held = Unit {0}
IsPart (die ∷ dice) held = (before after : List ℕ) × (before ++ die ∷ after ≡ held) × IsPart dice (before ++ after)

-- a run by some order of a part of the dice held
abbrev pub RunOf : Checkers → List ℕ → List Hop → Checkers → Type 0
RunOf p held steps q = (dice : List ℕ) × IsPart dice held × Run p dice steps q

-- an arrangement, and the two dice shown, 0 for none
pub record Standing : Type 0 where
  pub checkers : Checkers
  pub first : ℕ
  pub second : ℕ

-- the dice that are held
abbrev pub held : Standing → List ℕ
held p = held_of p.first p.second

-- some checker can go by this die
abbrev pub CanPlay : Checkers → ℕ → Type 0
CanPlay p die = (from to : ℕ) × (q : Checkers) × One p from to die q

-- some run has a step
abbrev pub CanMove : Standing → Type 0
CanMove p = (steps : List Hop) × (q : Checkers) × RunOf p.checkers (held p) steps q × (0 < length steps)

-- the length of a longest run
pub record IsMost (p : Standing) (n : ℕ) : Type 0 where
  pub reached : (steps : List Hop) × (q : Checkers) × RunOf p.checkers (held p) steps q × (length steps ≡ n)
  pub most : (steps : List Hop) (q : Checkers) → RunOf p.checkers (held p) steps q → length steps ≤ n

-- ---- the same as functions

-- what an arrangement is worth; 0 if there is none
abbrev pub score : (Checkers → ℕ) → Option Checkers → ℕ
score worth None = 0
score worth (Some q) = worth q

-- the greatest worth of a place up to n and the arrangement that a step from it by this die leads to
unfoldable pub best_of : (ℕ → Checkers → ℕ) → Checkers → ℕ → ℕ → ℕ
best_of worth p die zero = 0
best_of worth p die (suc n) = max (best_of worth p die n) (score (worth (suc n)) (one_of p (suc n) die))

-- how many of these dice can be played one after another
abbrev pub longest : Checkers → List ℕ → ℕ
longest p [] = 0
longest p (die ∷ dice) = best_of (λ source q. suc (longest q dice)) p die 25

-- the most dice that can be played, in either order
abbrev pub most_of : Standing → ℕ
most_of p = max (longest p.checkers (held_of p.first p.second)) (longest p.checkers (held_of p.second p.first))

-- a test of an arrangement, if there is one
abbrev pub passes : (Checkers → Bool) → Option Checkers → Bool
passes test None = false
passes test (Some q) = test q

-- these steps can be played one after another by a front of these dice
abbrev pub follows : Checkers → List ℕ → List Hop → Bool
follows p dice [] = true
follows p [] (step ∷ steps) = false
follows p (die ∷ dice) (step ∷ steps) =
    (step.target == step.source - die) && passes (λ q. follows q dice steps) (one_of p step.source die)

-- this die is held, and can be played
abbrev pub can_play : Checkers → ℕ → Bool
can_play p die = nat_lt 0 die && nat_lt 0 (longest p (die ∷ []))

-- one of the dice shown can be played
abbrev pub can_move : Standing → Bool
can_move p = can_play p.checkers p.first || can_play p.checkers p.second
