-- Boards of games that the user watches, as values.
use Rattle.fibs_fields.specs.Board.{BoardFields}
use Rattle.fibs_fields.specs.StoredBoard.{fields_of}
use Rattle.fibs_position.specs.declared.watched_board.WatchedBoard.{WatchedBoard}

-- the 53 fields of its board
abbrev pub watched_of : WatchedBoard → BoardFields
watched_of w = fields_of w.board
