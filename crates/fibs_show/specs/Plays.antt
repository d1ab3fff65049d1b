-- What `fibs plays` prints for the word that it is given.
use Rattle.std.specs.Prelude.{◌≡◌, ℕ, zero, List, ◌∷◌, ◌++◌, codes}
use Rattle.std.specs.List.{flat_map}
use Rattle.fibs_fields.specs.Board.{BoardFields}
use Rattle.fibs_messages.specs.Line.{ReadingValue, board_line, malformed_line}
use Rattle.fibs_position.specs.DecisionValue.{move}
use Rattle.fibs_position.specs.First.{IsFirst}
use Rattle.fibs_position.specs.GoodBoard.{HasFault, faults}
use Rattle.fibs_rules.specs.Hop.{Hop}
use Rattle.fibs_position.specs.Phases.{InPhase}
use Rattle.fibs_position.specs.PlaysOf.{PlaysIn}
use Rattle.fibs_position.specs.PositionValue.{PositionValue, position_of}
use Rattle.fibs_position.specs.declared.direction.Direction.{Direction}
use Rattle.fibs_position.specs.declared.phase.Phase.{Phase}
use Rattle.fibs_position.specs.Names.{phase_name, position_fault_name}
use Rattle.fibs_position.specs.declared.position_fault.PositionFault.{PositionFault}
use Rattle.fibs_commands.specs.Commands.{command_of}
use Rattle.fibs_engine.specs.Printing.{line_bytes}
use Rattle.fibs_engine.specs.Readings.{reading_text}

-- a play's command, in the numbers of a player whose checkers go this way, and a line end
abbrev pub play_line : Direction → List Hop → List ℕ
play_line direction play = line_bytes (command_of direction (move play))

-- `phase` and its name, then each play, each on a line of its own
abbrev pub listing : Phase → Direction → List (List Hop) → List ℕ
listing phase direction plays = codes "phase " ++ (phase_name phase ++ (10 ∷ flat_map (play_line direction) plays))

-- what is printed for a position: its phase and its plays; only the phase Move has plays
abbrev pub PositionText : PositionValue → List ℕ → Type 0
PositionText p text = (phase : Phase) × (plays : List (List Hop)) × InPhase p phase × PlaysIn p plays
    × (text ≡ listing phase p.direction plays)

-- for a good board, what is printed for its position
abbrev pub PlaysText : BoardFields → List ℕ → Type 0
PlaysText b text = PositionText (position_of b) text

-- the line that says why a word gives no position: the board's first fault; the first wrong field of a board line;
-- or that it is no board line
abbrev pub Refusal : ReadingValue → List ℕ → Type 0
Refusal (board_line b) why =
    (fault : PositionFault) × IsFirst (HasFault b) faults fault
    × (why ≡ codes "position " ++ position_fault_name fault)
Refusal (malformed_line zero field fault) why = why ≡ reading_text (malformed_line zero field fault)
Refusal _ why = why ≡ codes "not a board"
