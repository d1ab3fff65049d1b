use Rattle.std.proofs.Common.{◌≡◌, ◌≤◌, ◌+◌, ◌∙◌, ◌∷◌, ◌++◌, ◌^◌, [], arith, drop, get_or, refl, sym, ap, take, true, length-drop, take-append-drop}
use Rattle.std.specs.Prelude.{pos}
use Rattle.std.proofs.Math.Nat.{pow-le-pow_right}
use Rattle.std.proofs.lemmas.Bool.Decides.{nat_tests}
use Rattle.std.proofs.lemmas.List.{drop-drop, length-take-le}
use Rattle.fibs_fields.specs.Decimal.{is_positive}
use Rattle.fibs_fields.specs.declared.values.Values.TheVariants.{Between}
use Rattle.fibs_show.proofs.LineLemmas.RightNumbers.{byte_then, digit_number, digit_then, digits_number, number_right}
use Rattle.fibs_show.proofs.copied_lines.quick.pass_number.Goals as goal

pub returns-then-digit_at-clause-right : goal.returns-then-digit_at-clause-right
returns-then-digit_at-clause-right c found most room small =
    let text = c.args.text.now in
    let at = c.args.at.now in
    let digit = c.digit_at.ensures c.if-digit_at.true in
    let ten : 10 ^ 1 ≤ 10 ^ c.args.digits = pow-le-pow_right {n = 10} (omega arith) {i = 1} (omega arith) in
    number_right (Between (pos c.args.least) (pos most)) text (get_or text at 0 ∷ []) at (at + 2)
    (digit_number c.args.least most (get_or text at 0) digit.low digit.high (omega arith) small)
    (digit_then text at (at + 2) (48 + c.args.least) 57 digit refl)

pub returns-then-digit_at-2-clause-right : goal.returns-then-digit_at-2-clause-right
returns-then-digit_at-2-clause-right c found most room small =
    let text = c.args.text.now in
    let at = c.args.at.now in
    let first = get_or text at 0 in
    let last = get_or text (at + 1) 0 in
    let low = c.byte_at.ensures.low c.if-byte_at.true in
    let high = c.byte_at.ensures.high c.if-byte_at.true in
    let digit = c.digit_at-then-byte_at.ensures c.if-digit_at-2.true in
    let positive : is_positive (first ∷ last ∷ []) ≡ true =
    grind (arith, nat_tests, low, high, digit.low, digit.high) in
    number_right (Between (pos c.args.least) (pos most)) text (first ∷ last ∷ []) at (at + 3)
    (digits_number c.args.least most c.args.digits (first ∷ last ∷ []) positive c.requires.digits room small
    c.requires.least)
    (byte_then text (last ∷ 58 ∷ drop (at + 3) text) at first (omega arith) refl
    (digit_then text (at + 1) (at + 3) 48 57 digit (omega arith)))

pub returns-clause-right : goal.returns-clause-right
returns-clause-right c found most room small =
    let text = c.args.text.now in
    let at = c.args.at.now in
    let len = c.long_run-len.result in
    let run = c.long_run-len.ensures in
    let digits = take len (drop at text) in
    number_right (Between (pos c.args.least) (pos most)) text digits at (at + len + 1)
    (digits_number c.args.least most c.args.digits digits (run.number (omega arith))
    (omega (arith, run.short, length-take-le len (drop at text) (omega (arith, run.within, length-drop at text)))) room
    small c.requires.least)
    (sym (take-append-drop len (drop at text)) ∙ ap (λ l. digits ++ l) (drop-drop len at text
    ∙ byte_then text (drop (at + len + 1) text) (at + len) 58 c.if-end-text.false c.if-text-end-ne58.false refl))
