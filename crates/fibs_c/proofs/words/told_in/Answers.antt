-- The line says no board, or one without a position.
use Rattle.std.proofs.Common.{inl, inr}
use Rattle.fibs_fields.specs.StoredBoard.{fields_of}
use Rattle.fibs_c.proofs.words.told_in.Goals as goal

pub returns-in-Err-clause-fault : goal.returns-in-Err-clause-fault
returns-in-Err-clause-fault c = inl (record {
  field = c.in-Err.wrong.field;
  fault = c.in-Err.wrong.fault;
  wrong = c.in-Err.ensures.wrong;
  status_is = c.field_fault_status.ensures;
})

pub returns-in-Err-told_of-clause-fault : goal.returns-in-Err-told_of-clause-fault
returns-in-Err-told_of-clause-fault c = inr (record {
  board = fields_of c.in-Ok.board;
  says = c.in-Ok.ensures.found;
  fault = c.in-Err-told_of.fault;
  first = c.in-Err-told_of.ensures.fault;
  status_is = c.position_fault_status.ensures;
})
