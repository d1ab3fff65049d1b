use Rattle.std.proofs.Common.{arith}
use Rattle.fibs_show.proofs.LineLemmas.RightNumbers.{all_right}
use Rattle.fibs_show.proofs.copied_lines.quick.numbers_are_right.Goals as goal

pub returns : goal.returns
returns c found =
    all_right c.args.text.now c.pass_scores.new.at c.pass_places.new.at c.pass_cube.new.at c.pass_sides.new.at
    c.pass_all_checkers.new.at c.pass_number.new.at c.pass_number-else-not-has_room-7.new.at
    (c.pass_scores.ensures.right c.if-not-pass_scores.false) (c.pass_places.ensures.right c.if-not-pass_places.false)
    (c.pass_cube.ensures.right c.if-not-pass_cube.false) (c.pass_sides.ensures.right c.if-not-pass_sides.false)
    (c.pass_all_checkers.ensures.right c.if-not-pass_all_checkers.false)
    (c.pass_number.ensures.right c.if-not-pass_number.false 9999 (omega arith) (omega arith))
    (c.pass_number-else-not-has_room-7.ensures.right c.if-not-pass_number-2.false 9999 (omega arith) (omega arith))
    (c.is_last.ensures found)
