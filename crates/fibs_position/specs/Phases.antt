-- The phases of a turn (the standard rules of backgammon; FIBS board style 3).
use Rattle.std.specs.Prelude.{◌≡◌, ◌≢◌, ◌&&◌, ◌==◌, not, Bool, true, false, List, [], ◌∷◌, pos, find, unwrap_or}
use Rattle.std.specs.Ordering.{int_eq}
use Rattle.fibs_fields.specs.Board.{BoardFields}
use Rattle.fibs_position.specs.First.{IsFirst}
use Rattle.fibs_position.specs.PositionValue.{PositionValue, position_of}
use Rattle.fibs_rules.specs.Runs.{CanMove, can_move}
use Rattle.fibs_position.specs.declared.phase.Phase.{Phase}
use Rattle.fibs_position.specs.declared.phase.Phase.TheVariants.{Over, AnswerDouble, OpponentActs, RollOrDouble, Move, Passing}

-- the line of the table: when a phase may be
abbrev pub PhaseFits : PositionValue → Phase → Type 0
PhaseFits p Over = p.turn ≡ pos 0
PhaseFits p AnswerDouble = p.was_doubled ≡ pos 1
PhaseFits p OpponentActs = p.turn ≢ p.colour
PhaseFits p RollOrDouble = (p.standing.first ≡ 0) × (p.standing.second ≡ 0)
PhaseFits p Move = CanMove p.standing
PhaseFits p Passing = Unit {0}

-- the table's lines, in their order
abbrev pub phases : List Phase
phases = Over ∷ AnswerDouble ∷ OpponentActs ∷ RollOrDouble ∷ Move ∷ Passing ∷ []

-- the phase of a position: the first line that fits
abbrev pub InPhase : PositionValue → Phase → Type 0
InPhase p phase = IsFirst (PhaseFits p) phases phase

-- the phase of a board is that of its position
abbrev pub IsPhase : BoardFields → Phase → Type 0
IsPhase b phase = InPhase (position_of b) phase

-- the user decides
abbrev pub decides : Phase → Bool
decides Over = false
decides AnswerDouble = true
decides OpponentActs = false
decides RollOrDouble = true
decides Move = true
decides Passing = false

-- ---- the same as functions

-- a line of the table fits
abbrev pub phase_fits : PositionValue → Phase → Bool
phase_fits p Over = int_eq p.turn (pos 0)
phase_fits p AnswerDouble = int_eq p.was_doubled (pos 1)
phase_fits p OpponentActs = not (int_eq p.turn p.colour)
phase_fits p RollOrDouble = (p.standing.first == 0) && (p.standing.second == 0)
phase_fits p Move = can_move p.standing
phase_fits p Passing = true

-- the phase of a position
unfoldable pub phase_in : PositionValue → Phase
phase_in p = unwrap_or (find (phase_fits p) phases) Passing

-- the phase of a board
abbrev pub phase_of : BoardFields → Phase
phase_of b = phase_in (position_of b)
