-- One of the two lines says no board.
use Rattle.std.proofs.Common.{refl, inl, inr}
use Rattle.fibs_fields.specs.StoredBoard.{fields_of}
use Rattle.fibs_c.proofs.boards.fibs_differs.Goals as goal

pub returns-in-Err : goal.returns-in-Err
returns-in-Err c = inl (
  inl (record {
    field = c.in-Err.wrong.field;
    fault = c.in-Err.wrong.fault;
    wrong = c.in-Err.ensures.wrong;
    status_is = c.field_fault_status.ensures;
  }),
  refl,
)

pub returns-in-Err-read : goal.returns-in-Err-read
returns-in-Err-read c = inl (
  inr (record {
    board = fields_of c.in-Ok.board;
    says = c.in-Ok.ensures.found;
    second = record {
      field = c.in-Err-read.wrong.field;
      fault = c.in-Err-read.wrong.fault;
      wrong = c.in-Err-read.ensures.wrong;
      status_is = c.field_fault_status-in-Err-read.ensures;
    };
  }),
  refl,
)
