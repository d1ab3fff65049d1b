use Rattle.std.proofs.Common.{◌≤◌, ℕ, List, length, refl, sym, ap, inl, inr, subst, ◌∙◌}
use Rattle.fibs_fields.specs.StoredBoard.{fields_of}
use Rattle.fibs_c.specs.Records.Texts.{HandsOut}
use Rattle.fibs_c.proofs.boards.fibs_print_board.Goals as goal

pub returns-in-Err : goal.returns-in-Err
returns-in-Err c = inl (
  record {
    field = c.in-Err.wrong.field;
    fault = c.in-Err.wrong.fault;
    wrong = c.in-Err.ensures.wrong;
    status_is = c.field_fault_status.ensures;
  },
  refl,
  refl,
)

pub returns-in-Ok : goal.returns-in-Ok
returns-in-Ok c = inr (record {
  board = fields_of c.in-Ok.board;
  says = c.in-Ok.ensures.found;
  prints = subst (λ (bytes : List ℕ). HandsOut bytes c.args.text.now c.hand_out.new.room c.hand_out.new.len
      c.hand_out.result)
      (c.as_slice.ensures.value ∙ c.print.ensures.text) c.hand_out.ensures;
  few = subst (λ (n : ℕ). n ≤ 329) (sym (c.hand_out.ensures.len_is ∙ ap length c.as_slice.ensures.value))
      c.print.ensures.short;
})
