use Rattle.fibs_position.proofs.game_board.GameBoard.of.Goals as goal

pub returns-in-Err-clause-fault : goal.returns-in-Err-clause-fault
returns-in-Err-clause-fault c = λ f. let is = c.in-Err.is in (
  λ e. (c.of.ensures.fault f).0 cc,
  λ p. let e = (c.of.ensures.fault f).1 p in cc,
)
