use Rattle.std.proofs.Common.{[], ◌∷◌, ◌++◌, arith, refl, replicate}
use Rattle.fibs_show.specs.RightNumbers.{cube, die, turn}
use Rattle.fibs_show.proofs.LineLemmas.RightNumbers.{then_right}
use Rattle.fibs_show.proofs.copied_lines.quick.pass_cube.Goals as goal

pub returns-clause-right : goal.returns-clause-right
returns-clause-right c found =
    let text = c.args.text.now in
    let b = c.pass_sign.new.at in
    let d = c.pass_digits.new.at in
    let e = c.pass_number.new.at in
    then_right (turn ∷ []) (replicate 4 die ++ cube ∷ []) text c.args.at.now b e
    (c.pass_sign.ensures.right c.if-not-pass_sign.false turn refl refl)
    (then_right (replicate 4 die) (cube ∷ []) text b d e
    (c.pass_digits.ensures.right c.if-not-pass_digits.false die refl)
    (c.pass_number.ensures.right found 1048576 (omega arith) (omega arith)))
