use Rattle.std.proofs.Common.{arith, sym, ◌∙◌}
use Rattle.fibs_terminal.proofs.drawing.boards.is_moved.Goals as goal

pub returns-clause-same : goal.returns-clause-same
returns-clause-same c same = record {
  places = λ n low high. c.loop-number.invariant n low (omega (arith, high, c.loop-number-test.false));
  own_off = grind (arith, c.if-field-2.false, c.field-2.ensures.value, c.field-3.ensures.value);
  other_off = grind (arith, c.if-field-3.false, c.field-4.ensures.value, c.field-5.ensures.value);
  opponent = sym c.opponent.ensures.value ∙ sym c.bytes.ensures.value ∙ c.is_same.ensures.0 (grind (arith, same))
      ∙ c.bytes-2.ensures.value ∙ c.opponent-2.ensures.value;
}
