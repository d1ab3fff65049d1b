use Rattle.std.proofs.Common.{◌+◌, [], ◌∷◌, arith, refl}
use Rattle.fibs_show.proofs.LineLemmas.RightNumbers.{digit_right, front_one}
use Rattle.fibs_show.proofs.copied_lines.quick.pass_sign.Goals as goal

pub returns-then-digit_at-clause-right : goal.returns-then-digit_at-clause-right
returns-then-digit_at-clause-right c found values digit minus =
    let at = c.args.at.now in
    digit_right values c.args.text.now [] at at (at + 2) c.args.least 49 refl (c.digit_at.ensures c.if-digit_at.true)
    digit refl

pub returns-then-digit_at-2-clause-right : goal.returns-then-digit_at-2-clause-right
returns-then-digit_at-2-clause-right c found values digit minus =
    let text = c.args.text.now in
    let at = c.args.at.now in
    digit_right values text (45 ∷ []) at (at + 1) (at + 3) 49 49
    (front_one text at 45 (omega arith) (c.byte_at.ensures.low c.if-byte_at.true)
    (c.byte_at.ensures.high c.if-byte_at.true))
    (c.digit_at-then-byte_at.ensures c.if-digit_at-2.true) minus (omega arith)
