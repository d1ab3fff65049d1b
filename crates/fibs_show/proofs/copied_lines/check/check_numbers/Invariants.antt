use Rattle.std.proofs.Common.{◌≡◌, ◌+◌, map, drop}
use Rattle.fibs_fields.specs.Board.{field_values}
use Rattle.fibs_fields.specs.Field.{a_number_of}
use Rattle.fibs_fields.specs.BoardReading.{pieces_left, first_fault}
use Rattle.fibs_fields.specs.FieldReading.{left_of}
use Rattle.fibs_show.proofs.copied_lines.check.check_numbers.Given as goal

abbrev pub invariant-loop-i : goal.invariant-loop-i
invariant-loop-i l = record {
  colon : (left_of l.fields).separator ≡ 58;
  fault : first_fault 4 (map a_number_of field_values) (pieces_left (left_of l.fn.fields)) ≡ first_fault (l.i + 4)
      (map a_number_of (drop l.i field_values)) (pieces_left (left_of l.fields));
}
