use Rattle.std.proofs.Common.{◌≡◌, ◌≤◌, ◌+◌, take, drop}
use Rattle.fibs_fields.specs.Board.{field_values}
use Rattle.fibs_fields.specs.Numerals.{after_colons}
use Rattle.fibs_fields.specs.StoredNumbers.{numbers_of}
use Rattle.fibs_fields.proofs.BoardLemmas.Lengths.{total}
use Rattle.fibs_fields.proofs.boards.print.write_numbers.Given as goal

abbrev pub invariant-loop-left : goal.invariant-loop-left
invariant-loop-left l = record {
  count : l.left ≤ 50;
  within : l.start ≤ 329;
  room : total (take l.left field_values) + 135 ≤ l.start;
  text : drop l.start l.text ≡ after_colons (drop l.left (numbers_of l.numbers));
}

abbrev pub decreases-loop-left : goal.decreases-loop-left
decreases-loop-left l = l.left
