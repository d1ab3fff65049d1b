-- How numbers are read. No public contract rests on it.
use Rattle.std.specs.Prelude.{◌||◌, ℕ, cond, List, Result, Ok, Err, ℤ, pos, negsuc, ◌-◌, min, FitsSigned, nat_lt}
use Rattle.std.specs.Int.{w32}
use Rattle.std.specs.Str.Parse.{digits_value}
use Rattle.fibs_fields.specs.Decimal.{numbers_of_32_bits, numbers_of_64_bits, is_positive, is_zero}
use Rattle.fibs_fields.specs.declared.fault.Fault.{Fault}
use Rattle.fibs_fields.specs.declared.fault.Fault.TheVariants.{NotANumber, OutOfRange}
use Rattle.fibs_fields.specs.declared.values.Values.{Values}
use Rattle.fibs_fields.specs.declared.values.Values.TheVariants.{Between, Either}

-- the number of a canonical decimal without sign that has 64 bits, or what is wrong with it
abbrev pub unsigned_value : List ℕ → Result ℕ Fault
unsigned_value text =
    cond (is_zero text || is_positive text)
    (cond (nat_lt (digits_value 10 text) numbers_of_64_bits) (Ok (digits_value 10 text)) (Err OutOfRange))
    (Err NotANumber)

-- the numbers fit 32 bits
abbrev pub IsNarrow : Values → Type 0
IsNarrow (Between low high) = FitsSigned w32 low × FitsSigned w32 high
IsNarrow (Either one other) = FitsSigned w32 one × FitsSigned w32 other

-- the number, or one as far from 0 as no field's is
abbrev pub capped : ℤ → ℤ
capped (pos n) = pos (min n (numbers_of_32_bits - 1))
capped (negsuc n) = negsuc (min n (numbers_of_32_bits - 2))
