use Rattle.std.proofs.Common.{◌≡◌, ◌∷◌, ◌++◌, ◌+◌, ◌<◌, ◌≤◌, [], refl, sym, ap, ◌∙◌, rules, arith, take, drop, length, map, length-set}
use Rattle.std.specs.Prelude.{FitsSigned, slice_get}
use Rattle.std.specs.Fmt.{signed_decimal}
use Rattle.std.specs.Int.{w32, cast_signed, cast_unsigned}
use Rattle.std.proofs.lemmas.Int.{to_z-of_z}
use Rattle.std.proofs.lemmas.List.{append-nil, take_all}
use Rattle.std.proofs.lemmas.Result.{err_from_is_err_and}
use Rattle.std.proofs.Math.ListN.{drop_of_length-le}
use Rattle.fibs_fields.specs.Board.{allowed_by, field_values}
use Rattle.fibs_fields.specs.Field.{a_number_of}
use Rattle.fibs_fields.specs.BoardReading.{pieces_left, first_fault}
use Rattle.fibs_fields.specs.FieldReading.{left_of}
use Rattle.fibs_fields.proofs.BoardLemmas.NextFields.{end_right, end_wrong}
use Rattle.fibs_fields.proofs.BoardLemmas.OneNumberMore.{read_more, fit_more}
use Rattle.fibs_fields.proofs.BoardLemmas.FieldTable.{table_long}
use Rattle.fibs_fields.proofs.boards.read.read_numbers.Goals as goal

pub returns-in_err-numbers-clause-err : goal.returns-in_err-numbers-clause-err
returns-in_err-numbers-clause-err c =
    let p = err_from_is_err_and c.from_residual.result c.from_residual.ensures.1 in
    rw (p.1, p.2) (c.loop-i.invariant.fault ∙ c.in_err-numbers.ensures.err)

pub loop-i-preserved : goal.loop-i-preserved
loop-i-preserved c =
    let i = c.loop-i.i in
    let z = c.in_ok-numbers.field-0 in
    let read = c.in_ok-numbers.ensures.ok in
    let fits : FitsSigned w32 z = search rules in
    let same : cast_signed w32 (cast_unsigned w32 z) ≡ z = to_z-of_z w32 z fits in
    let within : i < length c.loop-i.numbers = omega (arith, c.loop-i.invariant.long, c.loop-i-test.true) in
    record {
      long = length-set c.loop-i.numbers i _ ∙ c.loop-i.invariant.long;
      colon = read.colon;
      read = read_more c.loop-i.numbers i _ _ _ _ within c.loop-i.invariant.read
          (read.pieces ∙ ap (λ y. signed_decimal y ∷ pieces_left (left_of c.read_number.new.fields)) (sym same));
      fit = fit_more field_values c.loop-i.numbers i (slice_get field_values i) _ within refl
          (ap (allowed_by (slice_get field_values i)) same ∙ read.allowed) c.loop-i.invariant.fit;
      fault = c.loop-i.invariant.fault ∙ read.fault;
    }

pub returns-in_err-end-clause-err : goal.returns-in_err-end-clause-err
returns-in_err-end-clause-err c =
    let p = err_from_is_err_and c.from_residual-in_err-end.result c.from_residual-in_err-end.ensures.1 in
    let i = c.loop-i.i in
    let past : 50 ≤ i = c.loop-i-test.false in
    let there : i + 4 ≡ 54 = omega (arith, c.loop-i.auto.i-end) in
    let end : drop i field_values ≡ [] = drop_of_length-le field_values {i = i} (omega (arith, table_long)) in
    rw (p.1, p.2)
    (c.loop-i.invariant.fault
    ∙ ap (λ l. first_fault (i + 4) (map a_number_of l) (pieces_left (left_of c.loop-i.fields))) end
    ∙ ap (λ n. first_fault n [] (pieces_left (left_of c.loop-i.fields))) there
    ∙ end_wrong 54 (left_of c.loop-i.fields) c.in_err-end.field-0.0 c.in_err-end.ensures)

pub returns-clause-ok : goal.returns-clause-ok
returns-clause-ok c =
    let i = c.loop-i.i in
    let past : 50 ≤ i = c.loop-i-test.false in
    c.loop-i.invariant.read ∙ ap (λ ps. map signed_decimal (take i c.loop-i.numbers) ++ ps)
    (end_right 54 (left_of c.loop-i.fields) [] c.in_ok-end.ensures)
    ∙ append-nil (map signed_decimal (take i c.loop-i.numbers))
    ∙ ap (map signed_decimal) (take_all i c.loop-i.numbers (omega (arith, c.loop-i.invariant.long)))

pub returns-clause-fit : goal.returns-clause-fit
returns-clause-fit c =
    let i = c.loop-i.i in
    let past : 50 ≤ i = c.loop-i-test.false in
    let all_values : take i field_values ≡ field_values = take_all i field_values (omega (arith, table_long)) in
    let all_numbers : take i c.loop-i.numbers ≡ c.loop-i.numbers =
    take_all i c.loop-i.numbers (omega (arith, c.loop-i.invariant.long)) in
    rw all_values at (rw all_numbers at c.loop-i.invariant.fit)
