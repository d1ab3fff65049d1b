-- The ranges of the fields, and that each board keeps to them.
use Rattle.std.proofs.Common.{◌≡◌, ℕ, ◌≤◌, ◌-◌, true, arith, refl, ◌∙◌, nat_le, drop}
use Rattle.std.specs.Prelude.{ℤ, pos, negsuc, slice_get, slice_set}
use Rattle.std.proofs.lemmas.Bool.{and_parts}
use Rattle.fibs_fields.specs.Board.{BoardFields, IsBoard, allowed_by, can_have, field_of, field_values}
use Rattle.fibs_fields.specs.FieldRanges.{FieldRanges}
use Rattle.fibs_fields.proofs.BoardLemmas.FieldGroups.{can_have_by, in_pair, in_range}
use Rattle.fibs_fields.proofs.BoardLemmas.OneNumberMore.{fit_at, fit_long, fit_set}
use Rattle.fibs_fields.proofs.BoardLemmas.FieldTable.{table_long}

-- a board's fields have numbers that they may have
field_held : (b : BoardFields) (n : ℕ) → IsBoard b → 4 ≤ n → n ≤ 53 → can_have n (field_of b n) ≡ true
field_held b n board low high =
    can_have_by n (field_of b n) low (fit_at field_values b.numbers (n - 4) (pos 0) board.2 (omega (arith, table_long)))

-- a board stays one if a field gets a number that it may have
field_set : (b : BoardFields) (n : ℕ) (z : ℤ) → IsBoard b → can_have n z ≡ true
    → IsBoard (record b { numbers = slice_set b.numbers (n - 4) z })
field_set b n z board may = (
  board.0,
  board.1,
  fit_set field_values b.numbers (n - 4) z board.2
      (and_parts (nat_le 4 n) (allowed_by (slice_get field_values (n - 4)) z) may).1,
)

-- the ranges, and what they mean for all boards
pub field_ranges : FieldRanges
unfolding field_values
field_ranges = record {
  place = λ n z low high. in_range 3 26 (negsuc 14) (pos 15) (drop 29 field_values) refl n z low (omega arith);
  turn = λ n z is. in_range 29 1 (negsuc 0) (pos 1) (drop 30 field_values) refl n z (omega arith) (omega arith);
  dice = λ n z low high. in_range 30 4 (pos 0) (pos 6) (drop 34 field_values) refl n z low (omega arith);
  cube = λ n z is. in_range 34 1 (pos 1) (pos 1048576) (drop 35 field_values) refl n z (omega arith) (omega arith);
  flag = λ n z low high. in_pair 35 3 (pos 0) (pos 1) (drop 38 field_values) refl n z low (omega arith);
  side = λ n z low high. in_pair 38 2 (negsuc 0) (pos 1) (drop 40 field_values) refl n z low (omega arith);
  off = λ n z low high. in_range 42 2 (pos 0) (pos 15) (drop 44 field_values) refl n z low (omega arith);
  held = field_held;
  fifty = λ b board. fit_long field_values b.numbers board.2 ∙ table_long;
  set = field_set;
}
