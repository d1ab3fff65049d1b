use Rattle.fibs_fields.proofs.BoardLemmas.EachLine.{board_or_wrong, one_board, not_both}
use Rattle.fibs_fields.proofs.boards.laws.each_line_is_one_board_or_wrong.Goals as goal

pub returns-clause-either : goal.returns-clause-either
returns-clause-either c = board_or_wrong

pub returns-clause-not_both : goal.returns-clause-not_both
returns-clause-not_both c = not_both

pub returns-clause-one_board : goal.returns-clause-one_board
returns-clause-one_board c = one_board
