use Rattle.std.proofs.Common.{◌+◌, ◌∙◌, [], ◌∷◌, ap, arith, drop, refl}
use Rattle.fibs_fields.specs.Board.{place}
use Rattle.fibs_show.proofs.LineLemmas.RightNumbers.{digit_right, front_one}
use Rattle.fibs_show.proofs.copied_lines.quick.pass_place.Goals as goal

pub returns-then-digit_at-3-clause-right : goal.returns-then-digit_at-3-clause-right
returns-then-digit_at-3-clause-right c found =
    let text = c.args.text.now in
    let at = c.args.at.now in
    let minus =
    front_one text at 45 (omega arith) (c.byte_at.ensures.low c.if-byte_at.true)
    (c.byte_at.ensures.high c.if-byte_at.true) in
    let one =
    front_one text (at + 1) 49 (omega arith) (c.byte_at-then-start-left.ensures.low c.if-byte_at-2.true)
    (c.byte_at-then-start-left.ensures.high c.if-byte_at-2.true) in
    digit_right place text (45 ∷ 49 ∷ []) at (at + 2) (at + 4) 48 53
    (minus ∙ ap (λ l. 45 ∷ l) (one ∙ ap (λ n. 49 ∷ drop n text) (omega arith)))
    (c.digit_at-then-byte_at-2.ensures c.if-digit_at-3.true) refl (omega arith)
