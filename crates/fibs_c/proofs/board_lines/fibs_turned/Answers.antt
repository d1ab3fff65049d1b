-- The numbers are turned, and printed with the names of the line's board.
use Rattle.std.proofs.Common.{refl, inl, inr}
use Rattle.fibs_fields.specs.StoredBoard.{fields_of}
use Rattle.fibs_c.proofs.board_lines.fibs_turned.Goals as goal

pub returns-in-Err : goal.returns-in-Err
returns-in-Err c = inl (
  record {
    field = c.in-Err.wrong.field;
    fault = c.in-Err.wrong.fault;
    wrong = c.in-Err.ensures.wrong;
    status_is = c.field_fault_status.ensures;
  },
  refl,
  refl,
)

pub returns-in-Ok : goal.returns-in-Ok
returns-in-Ok c = inr (record {
  board = fields_of c.in-Ok.board;
  says = c.in-Ok.ensures.found;
  numbers = c.turned_numbers-numbers.result;
  turned = record { all = c.turned_numbers-numbers.ensures.all; each = c.turned_numbers-numbers.ensures.each };
  prints = c.print_with.ensures;
})
