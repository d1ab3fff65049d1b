use Rattle.std.proofs.Common.{◌≡◌, ◌≤◌, ◌∙◌, ◌-◌, arith, length, drop, take, true, sym, subst, length-drop}
use Rattle.std.specs.Char.{is_ascii_digit}
use Rattle.std.proofs.lemmas.List.{get_or-take, length-take-le, take_rest}
use Rattle.std.proofs.lemmas.List.Sums.{prefix_len-le-length}
use Rattle.fibs_fields.specs.Decimal.{is_positive}
use Rattle.fibs_fields.proofs.FieldLemmas.NameFronts.{front_passes}
use Rattle.fibs_fields.proofs.NumberLemmas.Spelled.{positive_from}
use Rattle.fibs_show.proofs.copied_lines.quick.long_run.Goals as goal

pub returns-clause-number : goal.returns-clause-number
returns-clause-number c some =
    let text = c.args.text.now in
    let rest = take (length text - c.args.at) (drop c.args.at text) in
    let len = c.digit_run-len.result in
    let within : len ≤ length rest = omega (arith, prefix_len-le-length is_ascii_digit rest, c.digit_run-len.ensures) in
    subst (λ l. is_positive (take len l) ≡ true) (take_rest text c.args.at)
    (positive_from (take len rest) (record {
      some = omega (arith, length-take-le len rest within);
      lead = λ is. c.if-rest-eq48.false (sym (get_or-take len rest 0 0 some) ∙ is);
      digits = front_passes is_ascii_digit rest len c.digit_run-len.ensures;
    }))

pub returns-clause-within : goal.returns-clause-within
returns-clause-within c =
    let text = c.args.text.now in
    let rest = take (length text - c.args.at) (drop c.args.at text) in
    let same = take_rest text c.args.at in
    omega (
      arith,
      prefix_len-le-length is_ascii_digit rest,
      c.digit_run-len.ensures,
      subst (λ l. length rest ≡ length l) same (omega arith),
      length-drop c.args.at text,
    )
