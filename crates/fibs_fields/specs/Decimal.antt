-- The numbers of a line, as they are spelled, and what a field may have.
use Rattle.std.specs.Prelude.{◌==◌, ◌&&◌, ◌||◌, ◌^◌, ℕ, Bool, cond, not, List, Option, Some, None, Result, Ok, Err, ℤ, pos, neg_ℤ, drop, length, nat_le, nat_lt, slice_index, int_le}
use Rattle.std.specs.Ordering.{int_eq}
use Rattle.std.specs.Char.{is_ascii_digit}
use Rattle.std.specs.List.{list_all}
use Rattle.std.specs.Str.Parse.{digits_value, starts_with_minus}
use Rattle.fibs_fields.specs.declared.fault.Fault.{Fault}
use Rattle.fibs_fields.specs.declared.fault.Fault.TheVariants.{NotANumber, OutOfRange}
use Rattle.fibs_fields.specs.declared.values.Values.{Values}
use Rattle.fibs_fields.specs.declared.values.Values.TheVariants.{Between, Either}

-- how many numbers 32 bits hold
abbrev pub numbers_of_32_bits : ℕ
numbers_of_32_bits = 2 ^ 32

-- how many numbers 64 bits hold
abbrev pub numbers_of_64_bits : ℕ
numbers_of_64_bits = 2 ^ 64

-- a field may have the number
abbrev pub allows : Values → ℤ → Bool
allows (Between low high) z = int_le low z && int_le z high
allows (Either one other) z = int_eq z one || int_eq z other

-- digits that begin with no 0: the numbers from 1 on
abbrev pub is_positive : List ℕ → Bool
is_positive text = nat_lt 0 (length text) && not (slice_index text 0 == 48) && list_all is_ascii_digit text

-- `0`, and nothing else
abbrev pub is_zero : List ℕ → Bool
is_zero text = length text == 1 && slice_index text 0 == 48

-- the number of a canonical decimal: `0`, or digits that begin with no 0, with a `-` or without
abbrev pub decimal_value : List ℕ → Option ℤ
decimal_value text =
    cond (starts_with_minus text)
    (cond (is_positive (drop 1 text)) (Some (neg_ℤ (pos (digits_value 10 (drop 1 text))))) None)
    (cond (is_zero text || is_positive text) (Some (pos (digits_value 10 text))) None)

-- the number of a canonical decimal without sign, if it is not above the limit
unfoldable pub decimal_up_to : ℕ → List ℕ → Option ℕ
decimal_up_to limit text =
    cond ((is_zero text || is_positive text) && nat_le (digits_value 10 text) limit) (Some (digits_value 10 text)) None

-- the number of a field, or what is wrong with it
abbrev pub number_if_allowed : Values → Option ℤ → Result ℤ Fault
number_if_allowed values None = Err NotANumber
number_if_allowed values (Some z) = cond (allows values z) (Ok z) (Err OutOfRange)

-- the number that a text spells, or what is wrong with it
abbrev pub number_in : Values → List ℕ → Result ℤ Fault
number_in values text = number_if_allowed values (decimal_value text)
