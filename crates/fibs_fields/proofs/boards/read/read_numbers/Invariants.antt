use Rattle.std.proofs.Common.{◌≡◌, ◌+◌, ◌++◌, map, take, drop, length}
use Rattle.std.specs.Fmt.{signed_decimal}
use Rattle.fibs_fields.specs.Board.{Fit, field_values}
use Rattle.fibs_fields.specs.Field.{a_number_of}
use Rattle.fibs_fields.specs.BoardReading.{pieces_left, first_fault}
use Rattle.fibs_fields.specs.FieldReading.{left_of}
use Rattle.fibs_fields.proofs.boards.read.read_numbers.Given as goal

abbrev pub invariant-loop-i : goal.invariant-loop-i
invariant-loop-i l = record {
  long : length l.numbers ≡ 50;
  colon : (left_of l.fields).separator ≡ 58;
  read : pieces_left (left_of l.fn.fields) ≡ map signed_decimal (take l.i l.numbers) ++ pieces_left (left_of l.fields);
  fit : Fit (take l.i field_values) (take l.i l.numbers);
  fault : first_fault 4 (map a_number_of field_values) (pieces_left (left_of l.fn.fields)) ≡ first_fault (l.i + 4)
      (map a_number_of (drop l.i field_values)) (pieces_left (left_of l.fields));
}
