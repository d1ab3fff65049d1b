-- What a field may have, of a number and of the number cut off.
use Rattle.std.proofs.Common.{◌≡◌, true, false, Option, Some, None, arith, refl, ap, ⊎_elim, option_map}
use Rattle.std.proofs.lemmas.Bool.{cases_Bool}
use Rattle.std.specs.Prelude.{ℤ, pos, negsuc, FitsSigned}
use Rattle.std.specs.Int.{w32}
use Rattle.std.proofs.lemmas.Bool.Decides.{nat_tests}
use Rattle.std.proofs.lemmas.Int.{ints}
use Rattle.fibs_fields.specs.Decimal.{allows, number_if_allowed}
use Rattle.fibs_fields.specs.DecimalReading.{capped, IsNarrow}
use Rattle.fibs_fields.specs.declared.values.Values.{Values}
use Rattle.fibs_fields.specs.declared.values.Values.TheVariants.{Between, Either}

-- a number that is cut off is refused as before
pub allows_capped : (values : Values) (z : ℤ) → IsNarrow values → allows values (capped z) ≡ allows values z
allows_capped (Between low high) (pos n) fits = grind (arith, ints, nat_tests)
allows_capped (Between low high) (negsuc n) fits = grind (arith, ints, nat_tests)
allows_capped (Either one other) (pos n) fits = grind (arith, ints, nat_tests)
allows_capped (Either one other) (negsuc n) fits = grind (arith, ints, nat_tests)

-- one that is allowed is not cut off
pub allowed_same : (values : Values) (z : ℤ) → IsNarrow values → allows values z ≡ true → capped z ≡ z
allowed_same (Between low high) (pos n) fits holds = grind (arith, ints, nat_tests)
allowed_same (Between low high) (negsuc n) fits holds = grind (arith, ints, nat_tests)
allowed_same (Either one other) (pos n) fits holds = grind (arith, ints, nat_tests)
allowed_same (Either one other) (negsuc n) fits holds = grind (arith, ints, nat_tests)

-- a number that a field may have fits 32 bits
pub allowed_narrow : (values : Values) (z : ℤ) → IsNarrow values → allows values z ≡ true → FitsSigned w32 z
allowed_narrow (Between low high) (pos n) fits holds = grind (arith, ints, nat_tests)
allowed_narrow (Between low high) (negsuc n) fits holds = grind (arith, ints, nat_tests)
allowed_narrow (Either one other) (pos n) fits holds = grind (arith, ints, nat_tests)
allowed_narrow (Either one other) (negsuc n) fits holds = grind (arith, ints, nat_tests)

-- a number that is cut off is refused as before, and one that a field may have is not cut off
pub same_if_allowed : (values : Values) (spelled : Option ℤ) → IsNarrow values
    → number_if_allowed values (option_map capped spelled) ≡ number_if_allowed values spelled
same_if_allowed values None fits = refl
same_if_allowed values (Some z) fits = ⊎_elim
    (λ (holds : allows values z ≡ true). ap (λ y. number_if_allowed values (Some y)) (allowed_same values z fits holds))
    (λ (fails : allows values z ≡ false). rw (allows_capped values z fits, fails) refl)
    (cases_Bool (allows values z))
