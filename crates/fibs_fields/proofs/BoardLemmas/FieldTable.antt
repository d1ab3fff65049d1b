-- What holds of each entry of the table of fields.
use Rattle.std.proofs.Common.{◌≡◌, ◌^◌, ◌&&◌, Bool, true, length, arith, refl, nat_lt}
use Rattle.std.specs.List.{All}
use Rattle.std.proofs.lemmas.Bool.Decides.{nat_tests}
use Rattle.std.proofs.lemmas.List.Elements.{All-weaker}
use Rattle.std.proofs.lemmas.List.Sums.{AllPass-from_list_all}
use Rattle.fibs_fields.specs.Board.{field_values}
use Rattle.fibs_fields.specs.DecimalReading.{IsNarrow}
use Rattle.fibs_fields.specs.declared.values.Values.{Values}
use Rattle.fibs_fields.specs.declared.values.Values.TheVariants.{Between, Either}
use lib.Signed.{mag}

-- the numbers of an entry fit 32 bits, as a test
is_narrow : Values → Bool
is_narrow (Between low high) = nat_lt (mag low) (2 ^ 31) && nat_lt (mag high) (2 ^ 31)
is_narrow (Either one other) = nat_lt (mag one) (2 ^ 31) && nat_lt (mag other) (2 ^ 31)

-- the test decides it
narrow_from : (values : Values) → is_narrow values ≡ true → IsNarrow values
unfolding is_narrow
narrow_from (Between low high) h =
    (record { sfits = grind (arith, nat_tests) }, record { sfits = grind (arith, nat_tests) })
narrow_from (Either one other) h =
    (record { sfits = grind (arith, nat_tests) }, record { sfits = grind (arith, nat_tests) })

-- each entry of the table passes it
pub all_narrow : All IsNarrow field_values
unfolding is_narrow field_values
all_narrow =
    All-weaker (λ values. is_narrow values ≡ true) IsNarrow narrow_from field_values
    (AllPass-from_list_all is_narrow field_values refl)

-- the table has 50 entries
pub table_long : length field_values ≡ 50
unfolding field_values
table_long = refl
