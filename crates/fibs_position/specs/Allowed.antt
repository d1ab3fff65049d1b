-- Which decisions a user may make (the standard rules of backgammon; FIBS board style 3).
use Rattle.std.specs.Prelude.{◌≢◌, ◌⊎◌, ◌≤ℤ◌, ◌&&◌, not, pos, Bool, true, false, List, [], ◌∷◌, Option, find, int_le}
use Rattle.std.specs.Ordering.{int_eq}
use Rattle.fibs_fields.specs.Board.{BoardFields}
use Rattle.fibs_position.specs.First.{IsFirst}
use Rattle.fibs_position.specs.PositionValue.{PositionValue, position_of}
use Rattle.fibs_rules.specs.LegalPlays.{LegalPlay, legal_of}
use Rattle.fibs_position.specs.DecisionValue.{DecisionValue, roll, double, accept, reject, move, resign}
use Rattle.fibs_position.specs.Phases.{InPhase, decides, phase_in}
use Rattle.fibs_position.specs.declared.phase.Phase.{Phase}
use Rattle.fibs_position.specs.declared.phase.Phase.TheVariants.{AnswerDouble, RollOrDouble, Move}
use Rattle.fibs_position.specs.declared.disallowed.Disallowed.{Disallowed}
use Rattle.fibs_position.specs.declared.disallowed.Disallowed.TheVariants.{NotYours, WrongKind, IllegalPlay}

-- the user decides in three of the phases
abbrev pub UserDecides : PositionValue → Type 0
UserDecides p = InPhase p AnswerDouble ⊎ InPhase p RollOrDouble ⊎ InPhase p Move

-- each kind of decision has its phase, but to resign, which a player may before he rolls and before he moves
abbrev pub IsForPhase : PositionValue → DecisionValue → Type 0
IsForPhase p roll = InPhase p RollOrDouble
IsForPhase p double = InPhase p RollOrDouble
IsForPhase p accept = InPhase p AnswerDouble
IsForPhase p reject = InPhase p AnswerDouble
IsForPhase p (move steps) = InPhase p Move
IsForPhase p (resign stake) = InPhase p RollOrDouble ⊎ InPhase p Move

-- a player doubles only if he may, and no cube shows more than 1,048,576
abbrev pub CubeAllows : PositionValue → DecisionValue → Type 0
CubeAllows p roll = Unit {0}
CubeAllows p double = (p.may_double ≢ pos 0) × (p.cube ≤ℤ pos 524288)
CubeAllows p accept = p.cube ≤ℤ pos 524288
CubeAllows p reject = Unit {0}
CubeAllows p (move steps) = Unit {0}
CubeAllows p (resign stake) = Unit {0}

-- a decision of one of the phase's kinds, which the cube allows
abbrev pub IsRightKind : PositionValue → DecisionValue → Type 0
IsRightKind p decision = IsForPhase p decision × CubeAllows p decision

-- a move is legal by the rules
abbrev pub IsLegal : PositionValue → DecisionValue → Type 0
IsLegal p roll = Unit {0}
IsLegal p double = Unit {0}
IsLegal p accept = Unit {0}
IsLegal p reject = Unit {0}
IsLegal p (move steps) = LegalPlay p.standing steps
IsLegal p (resign stake) = Unit {0}

-- why a decision is not allowed
abbrev pub Forbids : PositionValue → DecisionValue → Disallowed → Type 0
Forbids p decision NotYours = ¬ UserDecides p
Forbids p decision WrongKind = ¬ IsRightKind p decision
Forbids p decision IllegalPlay = ¬ IsLegal p decision

-- the reasons, in the order in which they are named
abbrev pub reasons : List Disallowed
reasons = NotYours ∷ WrongKind ∷ IllegalPlay ∷ []

-- a decision is refused, for the first reason that there is
abbrev pub IsRefused : PositionValue → DecisionValue → Disallowed → Type 0
IsRefused p decision why = IsFirst (Forbids p decision) reasons why

-- a player may decide so: there is no reason against it
pub record MayDecide (p : PositionValue) (decision : DecisionValue) : Type 0 where
  pub yours : UserDecides p
  pub right : IsRightKind p decision
  pub legal : IsLegal p decision

-- what is allowed on a board is what its player may decide in its position
abbrev pub IsAllowed : BoardFields → DecisionValue → Type 0
IsAllowed b decision = MayDecide (position_of b) decision

-- what is refused on a board is what is refused in its position
abbrev pub IsDisallowed : BoardFields → DecisionValue → Disallowed → Type 0
IsDisallowed b decision why = IsRefused (position_of b) decision why

-- ---- the same as functions

-- a decision is of one of the kinds of a phase
abbrev pub is_for : DecisionValue → Phase → Bool
is_for roll RollOrDouble = true
is_for double RollOrDouble = true
is_for accept AnswerDouble = true
is_for reject AnswerDouble = true
is_for (move steps) Move = true
is_for (resign stake) RollOrDouble = true
is_for (resign stake) Move = true
is_for decision phase = false

-- the cube allows a decision
abbrev pub cube_allows : PositionValue → DecisionValue → Bool
cube_allows p roll = true
cube_allows p double = not (int_eq p.may_double (pos 0)) && int_le p.cube (pos 524288)
cube_allows p accept = int_le p.cube (pos 524288)
cube_allows p reject = true
cube_allows p (move steps) = true
cube_allows p (resign stake) = true

-- a decision is no move, or a legal one
abbrev pub is_legal : PositionValue → DecisionValue → Bool
is_legal p roll = true
is_legal p double = true
is_legal p accept = true
is_legal p reject = true
is_legal p (move steps) = legal_of p.standing steps
is_legal p (resign stake) = true

-- a reason against a decision holds
abbrev pub forbids : PositionValue → DecisionValue → Disallowed → Bool
forbids p decision NotYours = not (decides (phase_in p))
forbids p decision WrongKind = not (is_for decision (phase_in p) && cube_allows p decision)
forbids p decision IllegalPlay = not (is_legal p decision)

-- why a decision is refused, and None if the player may decide so
unfoldable pub refusal_of : PositionValue → DecisionValue → Option Disallowed
refusal_of p decision = find (forbids p decision) reasons

-- why a decision is not allowed on a board, and None if it is
abbrev pub allowed_of : BoardFields → DecisionValue → Option Disallowed
allowed_of b decision = refusal_of (position_of b) decision
