-- Laws of the rules.
use Rattle.std.specs.Prelude.{◌≡◌, ◌↔◌, ℕ, ◌<◌, ◌≤◌, true, false, List, [], ◌∷◌, Some, None}
use Rattle.fibs_fields.specs.Board.{BoardFields}
use Rattle.fibs_position.specs.GoodBoard.{IsGood, good}
use Rattle.fibs_position.specs.GamePart.{Differ, same_game}
use Rattle.fibs_position.specs.Phases.{IsPhase, decides, phase_of}
use Rattle.fibs_position.specs.DecisionValue.{DecisionValue, IsDecision, decision_of}
use Rattle.fibs_position.specs.Allowed.{IsAllowed, IsDisallowed, allowed_of}
use Rattle.fibs_position.specs.BoardEffect.{AreThrown, Effect, effect_of}
use Rattle.fibs_position.specs.declared.decision.Decision.{Decision}
use Rattle.fibs_position.specs.declared.phase.Phase.{Phase}
use Rattle.fibs_position.specs.declared.disallowed.Disallowed.{Disallowed}

-- the function `phase_of` gives each phase, which is the first line of the table that fits
abbrev pub PhaseIsExact : Type 0
PhaseIsExact = (b : BoardFields) (phase : Phase) → IsGood b → (phase_of b ≡ phase) ↔ IsPhase b phase

-- the function `allowed_of` gives exactly the decisions that are allowed, and the first reason against each other one
abbrev pub AllowedIsExact : Type 0
AllowedIsExact =
    (b : BoardFields) (decision : DecisionValue) → IsGood b
    → ((allowed_of b decision ≡ None) ↔ IsAllowed b decision)
    × ((why : Disallowed) → (allowed_of b decision ≡ Some why) ↔ IsDisallowed b decision why)

-- the function `effect_of` gives exactly the boards that decisions lead to
abbrev pub EffectIsExact : Type 0
EffectIsExact =
    (b : BoardFields) (decision : DecisionValue) (dice : List ℕ) (after : BoardFields)
    → (effect_of b decision dice ≡ Some after) ↔ Effect b decision dice after

-- a decision that is allowed is the user's
abbrev pub AllowedIsTheUsers : Type 0
AllowedIsTheUsers =
    (b : BoardFields) (decision : DecisionValue) → IsGood b → IsAllowed b decision → decides (phase_of b) ≡ true

-- what is allowed is carried out, with dice that are dice
abbrev pub AllowedIsCarriedOut : Type 0
AllowedIsCarriedOut =
    (b : BoardFields) (decision : DecisionValue) (dice : List ℕ) → IsGood b → IsAllowed b decision → AreThrown dice
    → (after : BoardFields) × Effect b decision dice after

-- what is carried out leaves a good board, which differs
abbrev pub EffectIsGood : Type 0
EffectIsGood =
    (b : BoardFields) (decision : DecisionValue) (dice : List ℕ) (after : BoardFields) → Effect b decision dice after
    → IsGood after × Differ b after

-- no three decisions are carried out one after another, each on the board to which the one before it led
abbrev pub NoThreeInARow : Type 0
NoThreeInARow =
    (a b c after : BoardFields) (d e f : DecisionValue) (dice dice' dice'' : List ℕ)
    → Effect a d dice b → Effect b e dice' c → Effect c f dice'' after → ⊥

-- the test `good` is true of exactly the good boards, of all values of fields
abbrev pub GoodIsExact : Type 0
GoodIsExact = (b : BoardFields) → (good b ≡ true) ↔ IsGood b

-- the test `same_game` fails exactly for boards that differ
abbrev pub SameGameIsExact : Type 0
SameGameIsExact = (a b : BoardFields) → (same_game a b ≡ false) ↔ Differ a b

-- that boards do not differ is an equivalence
pub record SameGameIsALikeness : Type 0 where
  pub itself : (a : BoardFields) → same_game a a ≡ true
  pub back : (a b : BoardFields) → same_game a b ≡ true → same_game b a ≡ true
  pub on : (a b c : BoardFields) → same_game a b ≡ true → same_game b c ≡ true → same_game a c ≡ true

-- a decision that `allowed_of` allows is the user's, whatever the fields are
abbrev pub AllowedDecides : Type 0
AllowedDecides = (b : BoardFields) (d : DecisionValue) → allowed_of b d ≡ None → decides (phase_of b) ≡ true

-- what is allowed on a good board is a decision that a player can make
abbrev pub AllowedIsADecision : Type 0
AllowedIsADecision = (b : BoardFields) (d : DecisionValue) → good b ≡ true → allowed_of b d ≡ None → IsDecision d

-- every value of the type is a decision that a player can make
abbrev pub DecisionsAreValid : Type 0
DecisionsAreValid = (decision : Decision) → IsDecision (decision_of decision)

-- what is allowed on a good board is carried out, with dice of 1 to 6, and leaves a good board, which differs
abbrev pub AllowedActs : Type 0
AllowedActs =
    (b : BoardFields) (d : DecisionValue) (d1 d2 : ℕ) → good b ≡ true → allowed_of b d ≡ None
    → 0 < d1 → d1 ≤ 6 → 0 < d2 → d2 ≤ 6
    → (b' : BoardFields) × (effect_of b d (d1 ∷ d2 ∷ []) ≡ Some b') × (good b' ≡ true) × (same_game b b' ≡ false)
