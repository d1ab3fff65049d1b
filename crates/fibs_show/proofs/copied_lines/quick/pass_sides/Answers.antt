use Rattle.std.proofs.Common.{[], ◌∷◌, refl, replicate}
use Rattle.fibs_fields.specs.Board.{edge, flag, side}
use Rattle.fibs_show.proofs.LineLemmas.RightNumbers.{then_right}
use Rattle.fibs_show.proofs.copied_lines.quick.pass_sides.Goals as goal

pub returns-clause-right : goal.returns-clause-right
returns-clause-right c found =
    let text = c.args.text.now in
    let a = c.pass_digits.new.at in
    let b = c.pass_sign.new.at in
    let d = c.pass_sign-else-not-pass_sign.new.at in
    let e = c.pass_edge.new.at in
    let f = c.pass_edge-2.new.at in
    then_right (replicate 3 flag) (side ∷ side ∷ edge ∷ edge ∷ []) text c.args.at.now a f
    (c.pass_digits.ensures.right c.if-not-pass_digits.false flag refl)
    (then_right (side ∷ []) (side ∷ edge ∷ edge ∷ []) text a b f
    (c.pass_sign.ensures.right c.if-not-pass_sign.false side refl refl)
    (then_right (side ∷ []) (edge ∷ edge ∷ []) text b d f
    (c.pass_sign-else-not-pass_sign.ensures.right c.if-not-pass_sign-2.false side refl refl)
    (then_right (edge ∷ []) (edge ∷ []) text d e f (c.pass_edge.ensures.right c.if-not-pass_edge.false)
    (c.pass_edge-2.ensures.right found))))
