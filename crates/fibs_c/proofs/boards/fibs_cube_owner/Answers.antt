-- The line's board says who may double next.
use Rattle.std.proofs.Common.{refl, ap, inl, inr, ◌∙◌}
use Rattle.fibs_fields.specs.StoredBoard.{fields_of}
use Rattle.fibs_position.specs.CubeOf.{owner_number}
use Rattle.fibs_c.proofs.boards.fibs_cube_owner.Goals as goal

pub returns-in-Err : goal.returns-in-Err
returns-in-Err c = inl (
  record {
    field = c.in-Err.wrong.field;
    fault = c.in-Err.wrong.fault;
    wrong = c.in-Err.ensures.wrong;
    status_is = c.field_fault_status.ensures;
  },
  refl,
)

pub returns-in-Ok : goal.returns-in-Ok
returns-in-Ok c = inr (record {
  board = fields_of c.in-Ok.board;
  says = c.in-Ok.ensures.found;
  owner_is = c.number.ensures ∙ ap owner_number c.of.ensures;
  done = refl;
})
