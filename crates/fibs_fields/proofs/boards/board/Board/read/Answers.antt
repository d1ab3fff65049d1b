use Rattle.fibs_fields.specs.StoredBoard.{read_fields}
use Rattle.fibs_fields.proofs.BoardLemmas.BoardTexts.{read_found, read_only, read_wrong, read_least}
use Rattle.fibs_fields.proofs.boards.board.Board.read.Goals as goal

pub returns-clause-found : goal.returns-clause-found
returns-clause-found c =
    read_found c.args.line.now (read_fields c.read_board.result)
    (record { board = c.read_board.ensures.board; ok = c.read_board.ensures.ok; err = c.read_board.ensures.err })
    c.read_board.ensures.spaces.0 c.read_board.ensures.spaces.1

pub returns-clause-only : goal.returns-clause-only
returns-clause-only c =
    read_only c.args.line.now (read_fields c.read_board.result)
    (record { board = c.read_board.ensures.board; ok = c.read_board.ensures.ok; err = c.read_board.ensures.err })

pub returns-clause-wrong : goal.returns-clause-wrong
returns-clause-wrong c =
    read_wrong c.args.line.now (read_fields c.read_board.result)
    (record { board = c.read_board.ensures.board; ok = c.read_board.ensures.ok; err = c.read_board.ensures.err })

pub returns-clause-least : goal.returns-clause-least
returns-clause-least c =
    read_least c.args.line.now (read_fields c.read_board.result)
    (record { board = c.read_board.ensures.board; ok = c.read_board.ensures.ok; err = c.read_board.ensures.err })
