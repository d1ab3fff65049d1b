-- What `fibs plays --json` prints for the word that it is given.
use Rattle.std.specs.Prelude.{◌≡◌, ◌⊎◌, ℕ, List, [], ◌∷◌, ◌++◌, codes}
use Rattle.std.specs.Fmt.{decimal}
use Rattle.fibs_fields.specs.Board.{BoardFields}
use Rattle.fibs_commands.specs.Commands.{command_of}
use Rattle.fibs_messages.specs.Line.{ReadingValue, IsReading, board_line}
use Rattle.fibs_position.specs.DecisionValue.{move}
use Rattle.fibs_position.specs.GoodBoard.{IsGood}
use Rattle.fibs_position.specs.Phases.{InPhase}
use Rattle.fibs_position.specs.PlaysOf.{PlaysIn}
use Rattle.fibs_position.specs.PositionValue.{position_of}
use Rattle.fibs_position.specs.declared.direction.Direction.{Direction}
use Rattle.fibs_position.specs.declared.phase.Phase.{Phase}
use Rattle.fibs_rules.specs.Hop.{Hop}
use Rattle.fibs_json.specs.Boards.{board_members, position_members}
use Rattle.fibs_json.specs.Json.{array_of, more_members, more_value, quoted}
use Rattle.fibs_json.specs.Lines.{ReadObject, object_with}

-- a step: the places that a checker leaves and reaches, in the player's own numbering, 25 for the bar and 0 for off
abbrev pub step_text : Hop → List ℕ
step_text step = 91 ∷ (decimal step.source ++ (44 ∷ (decimal step.target ++ (93 ∷ []))))

-- a play: its command, in the numbers of a player whose checkers go this way, and its steps
abbrev pub play_object : Direction → List Hop → List ℕ
play_object direction play =
    codes "{\"command\":" ++ (quoted (command_of direction (move play))
    ++ (more_value (codes "steps") (array_of step_text play) ++ (125 ∷ [])))

-- the plays of a board, as a further member of its object
abbrev pub plays_member : Direction → List (List Hop) → List ℕ
plays_member direction plays = more_value (codes "plays") (array_of (play_object direction) plays)

-- the object of a good board's line, with its plays
abbrev pub PlaysOf : List ℕ → BoardFields → List ℕ → Type 0
PlaysOf bytes b text = (phase : Phase) × (plays : List (List Hop))
    × InPhase (position_of b) phase × PlaysIn (position_of b) plays
    × (text ≡ object_with (codes "board") bytes
    (more_members (board_members b ++ position_members phase (position_of b))
    ++ plays_member (position_of b).direction plays))

-- the line says no good board
abbrev pub SaysNoGood : List ℕ → Type 0
SaysNoGood line = (b : BoardFields) → IsReading line (board_line b) → ¬ IsGood b

-- what is printed for a line, and the status: a good board has its plays, and any other line has the object that
-- `fibs show --json` prints for it
abbrev pub PlaysObject : List ℕ → List ℕ → ℕ → Type 0
PlaysObject line text status =
    ((b : BoardFields) × IsReading line (board_line b) × IsGood b × PlaysOf line b text × (status ≡ 0))
    ⊎ (SaysNoGood line × ((reading : ReadingValue) × IsReading line reading × ReadObject line reading text)
    × (status ≡ 3))

-- an object tells the line for which it is printed
abbrev pub PlaysTellLines : Type 0
PlaysTellLines = (k l text : List ℕ) (s t : ℕ) → PlaysObject k text s → PlaysObject l text t → k ≡ l
