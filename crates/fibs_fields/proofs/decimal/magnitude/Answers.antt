use Rattle.std.proofs.Common.{arith}
use Rattle.std.proofs.lemmas.Int.Digits.{digits_value_more}
use Rattle.fibs_fields.proofs.NumberLemmas.Digits.{digit_value_is, digit_low, too_large}
use Rattle.fibs_fields.proofs.decimal.magnitude.Goals as goal

pub overflow_sub-digit : goal.overflow_sub-digit
overflow_sub-digit c = digit_low c.args.digits.now c.loop-digit.digit-index c.requires c.loop-digit-test.true

pub loop-digit-preserved : goal.loop-digit-preserved
loop-digit-preserved c =
    let more = digits_value_more 10 c.args.digits.now c.loop-digit.digit-index c.loop-digit-test.true in
    let worth = digit_value_is c.args.digits.now c.loop-digit.digit-index c.requires c.loop-digit-test.true in
    omega (arith, more, worth, c.loop-digit.invariant)

pub returns-in_err-tens : goal.returns-in_err-tens
returns-in_err-tens c =
    rw c.from_residual.ensures
    (too_large 18446744073709551616 c.loop-digit.digit-index c.args.digits.now c.requires c.loop-digit-test.true
    (omega (arith, c.in_err-tens.ensures, c.loop-digit.invariant)))

pub returns-in_err-value : goal.returns-in_err-value
returns-in_err-value c =
    rw c.from_residual-in_err-value.ensures
    (too_large 18446744073709551616 c.loop-digit.digit-index c.args.digits.now c.requires c.loop-digit-test.true
    (omega (arith, c.in_err-value.ensures, c.loop-digit.invariant)))
