use Rattle.std.proofs.Common.{arith, ap, sym, ◌∙◌}
use Rattle.fibs_fields.specs.Board.{BoardFields}
use Rattle.fibs_terminal.proofs.drawing.boards.is_played.Goals as goal

pub returns-clause-same : goal.returns-clause-same
returns-clause-same c same = record {
  own = λ n low high. (c.loop-place.invariant n low (omega (arith, high, c.loop-place-test.false))).0;
  other = λ n low high. (c.loop-place.invariant n low (omega (arith, high, c.loop-place-test.false))).1;
  own_off = grind (
    arith,
    c.if-field.false,
    c.field.ensures.value,
    c.board.ensures.value,
    c.field-2.ensures.value,
    c.board-2.ensures.value,
  );
  other_off = grind (
    arith,
    c.if-field-2.false,
    c.field-3.ensures.value,
    c.board-3.ensures.value,
    c.field-4.ensures.value,
    c.board-4.ensures.value,
  );
  opponent = ap (λ (b : BoardFields). b.opponent) (sym c.board-5.ensures.value) ∙ sym c.opponent.ensures.value
      ∙ sym c.bytes.ensures.value ∙ c.is_same.ensures.0 (grind (arith, same)) ∙ c.bytes-2.ensures.value
      ∙ c.opponent-2.ensures.value ∙ ap (λ (b : BoardFields). b.opponent) c.board-6.ensures.value;
}
