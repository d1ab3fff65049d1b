-- Which play leads from one board to another (the project's own).
use Rattle.std.specs.Prelude.{◌≡◌, ◌≤◌, ℕ, List, [], ◌∷◌, Some}
use Rattle.fibs_fields.specs.Board.{BoardFields, field_of}
use Rattle.fibs_position.specs.BoardEffect.{effect_of}
use Rattle.fibs_position.specs.DecisionValue.{move}
use Rattle.fibs_position.specs.Phases.{phase_of}
use Rattle.fibs_position.specs.PositionValue.{position_of}
use Rattle.fibs_position.specs.declared.phase.Phase.TheVariants.{Move, Passing}
use Rattle.fibs_rules.specs.Hop.{Hop}
use Rattle.fibs_rules.specs.LegalPlays.{IsGreatest}

-- two boards have the same checkers on places 1 to 24 and off; those on the bars are what is left of fifteen
abbrev pub SameCheckers : BoardFields → BoardFields → Type 0
SameCheckers a b =
    ((n : ℕ) → 8 ≤ n → n ≤ 31 → field_of a n ≡ field_of b n)
    × (field_of a 46 ≡ field_of b 46) × (field_of a 47 ≡ field_of b 47)

-- a play of the player leads from a board to another: its effect on the first has the checkers of the second
abbrev pub IsPlayed : BoardFields → List Hop → BoardFields → Type 0
IsPlayed before steps after =
    (led : BoardFields) × (effect_of before (move steps) (0 ∷ 0 ∷ []) ≡ Some led) × SameCheckers led after

-- no play of the player leads from a board to another: none of the greatest plays that are legal, and not the play of
-- no step if he can't move
abbrev pub NoneIsPlayed : BoardFields → BoardFields → Type 0
NoneIsPlayed before after =
    (phase_of before ≡ Move → (steps : List Hop) → IsGreatest (position_of before).standing steps
    → ¬ IsPlayed before steps after)
    × (phase_of before ≡ Passing → ¬ IsPlayed before [] after)
