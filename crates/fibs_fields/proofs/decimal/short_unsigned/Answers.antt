use Rattle.std.proofs.Common.{arith, get_or, sym, ◌∙◌}
use Rattle.std.proofs.lemmas.Int.Digits.{digits_value_more}
use Rattle.fibs_fields.proofs.NumberLemmas.Digits.{is_digit_range, front_room, front_more}
use Rattle.fibs_fields.proofs.decimal.short_unsigned.Goals as goal

pub overflow_mul-value : goal.overflow_mul-value
overflow_mul-value c =
    let room =
    front_room c.args.text.now c.loop-byte.byte-index c.loop-byte.invariant.0 (search arith)
    c.loop-byte-test.true in
    omega (arith, room, c.loop-byte.invariant.1)

pub overflow_add-value : goal.overflow_add-value
overflow_add-value c =
    let room =
    front_room c.args.text.now c.loop-byte.byte-index c.loop-byte.invariant.0 (search arith)
    c.loop-byte-test.true in
    omega (arith, room, c.loop-byte.invariant.1)

pub loop-byte-preserved : goal.loop-byte-preserved
loop-byte-preserved c =
    let digit = sym c.is_ascii_digit.ensures.value ∙ c.if-not-is_ascii_digit.false in
    let more = digits_value_more 10 c.args.text.now c.loop-byte.byte-index c.loop-byte-test.true in
    let worth = is_digit_range (get_or c.args.text.now c.loop-byte.byte-index 0) digit in (
      front_more c.args.text.now c.loop-byte.byte-index c.loop-byte.invariant.0 c.loop-byte-test.true digit,
      omega (arith, more, worth.2, c.loop-byte.invariant.1, c.from.ensures),
    )
