use Rattle.std.proofs.Common.{[], ◌∷◌, arith}
use Rattle.fibs_fields.specs.Board.{count}
use Rattle.fibs_show.specs.RightNumbers.{score}
use Rattle.fibs_show.proofs.LineLemmas.RightNumbers.{then_right}
use Rattle.fibs_show.proofs.copied_lines.quick.pass_scores.Goals as goal

pub returns-clause-right : goal.returns-clause-right
returns-clause-right c found =
    let text = c.args.text.now in
    let b = c.pass_number.new.at in
    let d = c.pass_number-else-not-pass_number.new.at in
    let e = c.pass_number-2.new.at in
    then_right (count ∷ []) (score ∷ score ∷ []) text c.args.at.now b e
    (c.pass_number.ensures.right c.if-not-pass_number.false 9999 (omega arith) (omega arith))
    (then_right (score ∷ []) (score ∷ []) text b d e
    (c.pass_number-else-not-pass_number.ensures.right c.if-not-pass_number-2.false 99999999 (omega arith) (omega arith))
    (c.pass_number-2.ensures.right found 99999999 (omega arith) (omega arith)))
