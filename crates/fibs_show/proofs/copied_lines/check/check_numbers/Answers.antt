use Rattle.std.proofs.Common.{◌≡◌, ◌+◌, ◌≤◌, [], ap, ◌∙◌, arith, drop, map}
use Rattle.std.proofs.lemmas.Result.{err_from_is_err_and}
use Rattle.std.proofs.Math.ListN.{drop_of_length-le}
use Rattle.fibs_fields.specs.Board.{field_values}
use Rattle.fibs_fields.specs.Field.{a_number_of}
use Rattle.fibs_fields.specs.BoardReading.{pieces_left, first_fault}
use Rattle.fibs_fields.specs.FieldReading.{left_of}
use Rattle.fibs_fields.proofs.BoardLemmas.CheckedLines.{end_checked}
use Rattle.fibs_fields.proofs.BoardLemmas.FieldTable.{table_long}
use Rattle.fibs_show.proofs.copied_lines.check.check_numbers.Goals as goal

pub returns-in_err-read_number : goal.returns-in_err-read_number
returns-in_err-read_number c =
    let p = err_from_is_err_and c.from_residual.result c.from_residual.ensures.1 in
    rw (p.1, p.2) (c.loop-i.invariant.fault ∙ c.in_err-read_number.ensures.err)

pub loop-i-preserved : goal.loop-i-preserved
loop-i-preserved c = record {
  colon = c.in_ok-read_number.ensures.ok.colon;
  fault = c.loop-i.invariant.fault ∙ c.in_ok-read_number.ensures.ok.fault;
}

pub returns : goal.returns
returns c =
    let i = c.loop-i.i in
    let past : 50 ≤ i = c.loop-i-test.false in
    let there : i + 4 ≡ 54 = omega (arith, c.loop-i.auto.i-end) in
    let end : drop i field_values ≡ [] = drop_of_length-le field_values {i = i} (omega (arith, table_long)) in
    c.loop-i.invariant.fault
    ∙ ap (λ l. first_fault (i + 4) (map a_number_of l) (pieces_left (left_of c.loop-i.fields))) end
    ∙ ap (λ n. first_fault n [] (pieces_left (left_of c.loop-i.fields))) there
    ∙ end_checked 54 (left_of c.loop-i.fields) c.end.result c.end.ensures
