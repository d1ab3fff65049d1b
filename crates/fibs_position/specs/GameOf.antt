-- Boards of games in which the user plays, as values.
use Rattle.fibs_fields.specs.Board.{BoardFields}
use Rattle.fibs_fields.specs.StoredBoard.{fields_of}
use Rattle.fibs_position.specs.declared.game_board.GameBoard.{GameBoard}

-- the 53 fields of its board
abbrev pub game_of : GameBoard → BoardFields
game_of g = fields_of g.board
