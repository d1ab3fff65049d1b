use Rattle.std.proofs.Common.{refl, inl, inr}
use Rattle.fibs_fields.specs.StoredBoard.{fields_of}
use Rattle.fibs_c.proofs.turn.game_in.Goals as goal

pub returns-in-Err-clause-fault : goal.returns-in-Err-clause-fault
returns-in-Err-clause-fault c = inl (record {
  field = c.in-Err.wrong.field;
  fault = c.in-Err.wrong.fault;
  wrong = c.in-Err.ensures.wrong;
  status_is = c.field_fault_status.ensures;
})

pub returns-in-Err-of-clause-fault : goal.returns-in-Err-of-clause-fault
returns-in-Err-of-clause-fault c = inr (record {
  board = fields_of c.in-Ok.board;
  says = c.in-Ok.ensures.found;
  fault = c.in-Err-of.fault;
  first = (c.in-Err-of.ensures.fault c.in-Err-of.fault).0 refl;
  status_is = c.position_fault_status.ensures;
})
