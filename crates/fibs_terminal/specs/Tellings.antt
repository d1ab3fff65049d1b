-- What the boards of a terminal have told (the project's own).
use Rattle.std.specs.Prelude.{◌≡◌, ℕ, List, Some}
use Rattle.fibs_position.specs.GameOf.{game_of}
use Rattle.fibs_position.specs.declared.game_board.GameBoard.{GameBoard}
use Rattle.fibs_terminal.specs.Endings.{is_ending}
use Rattle.fibs_terminal.specs.declared.drawing.boards.Boards.{Boards}
use Rattle.fibs_terminal.specs.declared.drawing.ending.Ending.{Ending}

-- a text says how the game has ended, and no more than a row has told: of the board that came last, with its opponent
abbrev pub has_told : Boards → List ℕ → Type 0
has_told boards said = (ending : Ending) × (board : GameBoard) × (boards.ending ≡ Some ending)
    × (boards.heard ≡ Some board) × is_ending ending (game_of board).opponent said
