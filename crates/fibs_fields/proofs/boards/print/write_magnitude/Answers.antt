use Rattle.std.proofs.Common.{◌≡◌, ◌+◌, ◌-◌, ◌∷◌, [], ap, arith, decimal, length}
use Rattle.std.proofs.lemmas.Fmt.{decimal_digit}
use Rattle.std.proofs.lemmas.List.{drop-set}
use Rattle.fibs_fields.proofs.boards.print.write_magnitude.Goals as goal

pub overflow_sub-text : goal.overflow_sub-text
overflow_sub-text c =
    omega (arith, c.requires.room, ap length (decimal_digit c.args.magnitude (omega (arith, c.if-magnitude-gt9.false))))

pub overflow_sub-result : goal.overflow_sub-result
overflow_sub-result c =
    omega (arith, c.requires.room, ap length (decimal_digit c.args.magnitude (omega (arith, c.if-magnitude-gt9.false))))

pub returns-clause-start : goal.returns-clause-start
returns-clause-start c =
    omega (arith, c.requires.room, ap length (decimal_digit c.args.magnitude (omega (arith, c.if-magnitude-gt9.false))))

pub returns-clause-written : goal.returns-clause-written
returns-clause-written c =
    let one : decimal c.args.magnitude ≡ (48 + c.args.magnitude) ∷ [] =
    decimal_digit c.args.magnitude (omega (arith, c.if-magnitude-gt9.false)) in
    let back : c.args.end - 1 + 1 ≡ c.args.end = omega (arith, c.requires.room, ap length one) in
    rw (drop-set c.args.text.now (c.args.end - 1) _ (omega (arith, c.requires.within)), back, one)
