-- What C gets of a position.
use Rattle.std.specs.Prelude.{◌≡◌, ℕ, ℤ, ◌+◌, ◌<◌, ◌≤◌, ◌⊎◌, pos, negsuc, List, length, map, take, drop, Option, None, Some, if◌then◌else◌}
use Rattle.std.specs.Ordering.{int_eq}
use Rattle.fibs_fields.specs.Board.{BoardFields, BoardText}
use Rattle.fibs_commands.specs.CommandReading.{read_command}
use Rattle.fibs_commands.specs.Commands.{command_of}
use Rattle.fibs_position.specs.Allowed.{refusal_of}
use Rattle.fibs_position.specs.DecisionValue.{DecisionValue}
use Rattle.fibs_position.specs.First.{IsFirst}
use Rattle.fibs_position.specs.GoodBoard.{IsGood, HasFault, faults}
use Rattle.fibs_position.specs.Names.{position_fault_number}
use Rattle.fibs_position.specs.Phases.{InPhase}
use Rattle.fibs_position.specs.PlaysOf.{PlaysIn}
use Rattle.fibs_position.specs.PositionValue.{PositionValue, position_of}
use Rattle.fibs_position.specs.declared.direction.Direction.{Direction}
use Rattle.fibs_position.specs.declared.direction.Direction.TheVariants.{Down, Up}
use Rattle.fibs_position.specs.declared.phase.Phase.{Phase}
use Rattle.fibs_position.specs.declared.phase.Phase.TheVariants.{Over, AnswerDouble, OpponentActs, RollOrDouble, Move, Passing}
use Rattle.fibs_position.specs.declared.position_fault.PositionFault.{PositionFault}
use Rattle.fibs_rules.specs.Hop.{Hop}
use Rattle.fibs_c.specs.BoardDoor.{IsWrongBoard}
use Rattle.fibs_c.specs.Records.Decisions.{IsDecisionAs, move_in, as_move}
use Rattle.fibs_c.specs.Records.Statuses.{allowed_status}
use Rattle.fibs_c.specs.Records.Texts.{HandsOut}
use Rattle.fibs_c.specs.declared.records.decisions.DecisionRecord.{DecisionRecord}

-- the line says a good board, and this is its position
pub record IsPositionIn (line : List ℕ) (p : PositionValue) : Type 0 where
  pub board : BoardFields
  pub says : BoardText board line
  pub good : IsGood board
  pub same : p ≡ position_of board

-- the line says a board that has no position, for this first fault
pub record HasNoPosition (line : List ℕ) (status : ℕ) : Type 0 where
  pub board : BoardFields
  pub says : BoardText board line
  pub fault : PositionFault
  pub first : IsFirst (HasFault board) faults fault
  pub status_is : status ≡ 200 + position_fault_number fault

-- the line says no board, or one without a position
abbrev pub IsNoPosition : List ℕ → ℕ → Type 0
IsNoPosition line status = IsWrongBoard line status ⊎ HasNoPosition line status

-- the number of a phase, as C sees it
abbrev pub phase_number : Phase → ℕ
phase_number Over = 1
phase_number AnswerDouble = 2
phase_number OpponentActs = 3
phase_number RollOrDouble = 4
phase_number Move = 5
phase_number Passing = 6

-- the phase of the line's position
pub record TellsPhase (line : List ℕ) (n status : ℕ) : Type 0 where
  pub position : PositionValue
  pub is : IsPositionIn line position
  pub phase : Phase
  pub fits : InPhase position phase
  pub number : n ≡ phase_number phase
  pub done : status ≡ 0

-- or the line has no position, and nothing is written
abbrev pub IsPhaseTold : List ℕ → ℕ → ℕ → ℕ → Type 0
IsPhaseTold line n n' status = (IsNoPosition line status × (n' ≡ n)) ⊎ TellsPhase line n' status

-- the status of a decision in the line's position
pub record TellsAllowed (line : List ℕ) (d : DecisionValue) (status : ℕ) : Type 0 where
  pub position : PositionValue
  pub is : IsPositionIn line position
  pub status_is : status ≡ allowed_status (refusal_of position d)

-- the record says no decision, or the line no position, or the answer is that of the rules
abbrev pub IsAllowedTold : List ℕ → Option DecisionValue → ℕ → Type 0
IsAllowedTold line None status = status ≡ 504
IsAllowedTold line (Some d) status = IsNoPosition line status ⊎ TellsAllowed line d status

-- the plays are at the room's start, if they fit, and the rest of the room is as it was; else nothing is written
pub record HandsOutPlays (plays : List (List Hop)) (old new : List DecisionRecord) (status : ℕ) : Type 0 where
  pub fits : length plays ≤ length old
      → (status ≡ 0) × (map move_in (take (length plays) new) ≡ map as_move plays)
      × (drop (length plays) new ≡ drop (length plays) old)
  pub short : length old < length plays → (status ≡ 503) × (new ≡ old)

-- the plays of the line's position, and how many there are
pub record TellsPlays (line : List ℕ) (old new : List DecisionRecord) (count status : ℕ) : Type 0 where
  pub position : PositionValue
  pub is : IsPositionIn line position
  pub plays : List (List Hop)
  pub are : PlaysIn position plays
  pub count_is : count ≡ length plays
  pub handed : HandsOutPlays plays old new status

-- or there is no position, or memory ran out, and nothing is written
abbrev pub ArePlaysTold : List ℕ → List DecisionRecord → List DecisionRecord → ℕ → ℕ → ℕ → Type 0
ArePlaysTold line old new count count' status =
    ((IsNoPosition line status ⊎ (status ≡ 401)) × (new ≡ old) × (count' ≡ count))
    ⊎ TellsPlays line old new count' status

-- the direction by its number in field 43 (FIBS board style 3), if it is one
abbrev pub direction_in : ℤ → Option Direction
direction_in direction =
    if int_eq direction (negsuc 0) then Some Down else if int_eq direction (pos 1) then Some Up else None

-- the command of a decision is handed out; or there is no decision or no direction, and nothing is written
abbrev pub IsTextTold : Option DecisionValue → Option Direction → List ℕ → List ℕ → ℕ → ℕ → ℕ → Type 0
IsTextTold None way old new len len' status = (status ≡ 504) × (new ≡ old) × (len' ≡ len)
IsTextTold (Some d) None old new len len' status = (status ≡ 511) × (new ≡ old) × (len' ≡ len)
IsTextTold (Some d) (Some way) old new len len' status =
    HandsOut (command_of way d) old new len' status × (len' ≤ 512)

-- the decision that was read; or the text is no command, and nothing is written
abbrev pub IsDecisionRead : Option DecisionValue → DecisionRecord → DecisionRecord → ℕ → Type 0
IsDecisionRead None r r' status = (status ≡ 505) × (r' ≡ r)
IsDecisionRead (Some d) r r' status = (status ≡ 0) × IsDecisionAs r' d

-- the same for a player of this direction, if it is one
abbrev pub IsDecisionReadIn : Option Direction → List ℕ → DecisionRecord → DecisionRecord → ℕ → Type 0
IsDecisionReadIn None text r r' status = (status ≡ 511) × (r' ≡ r)
IsDecisionReadIn (Some way) text r r' status = IsDecisionRead (read_command way text) r r' status
