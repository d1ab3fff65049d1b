use Rattle.std.proofs.Common.{◌++◌, ◌-◌, ap, ◌∙◌, arith}
use Rattle.std.specs.Prelude.{slice_set}
use Rattle.std.specs.Int.{w8, w32, cast_signed, cast_unsigned}
use Rattle.std.proofs.lemmas.Int.{to_z-of_z}
use Rattle.fibs_fields.specs.StoredNumbers.{numbers_of}
use Rattle.fibs_fields.proofs.BoardLemmas.SmallNumbers.{set_first, set_middle, set_last}
use Rattle.fibs_fields.proofs.boards.numbers.Numbers.set.Goals as goal

pub returns-then-i-lt3 : goal.returns-then-i-lt3
unfolding numbers_of
returns-then-i-lt3 c =
    let n = c.args.self.now in
    ap (λ z. slice_set n.first c.args.i z ++ (n.small ++ n.last)) (to_z-of_z w32 c.args.number c.ranges.number)
    ∙ set_first n.first n.small n.last c.args.i c.args.number (omega (arith, n.long.0, c.if-i-lt3.true))

pub returns-then-i-lt34 : goal.returns-then-i-lt34
unfolding numbers_of
returns-then-i-lt34 c =
    let n = c.args.self.now in
    let low = c.if-i-lt3.false in
    let high = c.if-i-lt34.true in
    let narrow = to_z-of_z w8 c.args.number (c.requires.small (omega (arith, low)) (omega (arith, high))) in
    ap (λ z. n.first ++ (slice_set n.small (c.args.i - 3) z ++ n.last))
    (ap (λ z. cast_signed w8 (cast_unsigned w8 z)) (to_z-of_z w32 c.args.number c.ranges.number) ∙ narrow)
    ∙ set_middle n.first n.small n.last 3 c.args.i c.args.number n.long.0 (omega (arith, low))
    (omega (arith, n.long.1, low, high))

pub returns-else-i-lt34 : goal.returns-else-i-lt34
unfolding numbers_of
returns-else-i-lt34 c =
    let n = c.args.self.now in
    ap (λ z. n.first ++ (n.small ++ slice_set n.last (c.args.i - 34) z))
    (to_z-of_z w32 c.args.number c.ranges.number)
    ∙ set_last n.first n.small n.last 3 31 c.args.i c.args.number n.long.0 n.long.1 (omega (arith, c.if-i-lt34.false))
