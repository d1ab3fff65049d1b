use Rattle.fibs_fields.proofs.boards.laws.boards_are_valid.Goals as goal

pub returns : goal.returns
returns c = λ board. board.valid
