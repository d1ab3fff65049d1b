-- A canonical decimal and its number determine each other.
use Rattle.std.proofs.Common.{◌≡◌, ◌≢◌, ℕ, zero, suc, ◌<◌, ◌≤◌, ◌^◌, ◌==◌, ◌&&◌, ◌||◌, true, false, not, cond, List, [], ◌∷◌, Option, Some, None, Result, Ok, Err, length, get_or, arith, rules, nat_lt, lit<, refl, sym, ap, ◌∙◌, subst, ⊎_elim}
use Rattle.std.specs.Prelude.{ℤ, pos, negsuc, neg_ℤ, FitsSigned}
use Rattle.std.specs.Char.{is_ascii_digit}
use Rattle.std.specs.List.{list_all}
use Rattle.std.specs.Int.{w32}
use Rattle.std.specs.Fmt.{decimal, signed_decimal}
use Rattle.std.specs.Str.Parse.{digits_value, starts_with_minus}
use Rattle.std.proofs.lemmas.Bool.{cases_Bool, cases_lt, and_parts, and_from, or_cases}
use Rattle.std.proofs.Math.Bool.{or-true}
use Rattle.fibs_fields.proofs.NumberLemmas.Digits.{digit_low}
use Rattle.std.proofs.lemmas.Bool.Decides.{nat_tests}
use Rattle.std.proofs.lemmas.Option.{cond_some}
use Rattle.std.proofs.lemmas.Fmt.{decimal-digits_value, decimal_digit, decimal_nonempty, first_decimal, digits_decimal, digits_value-decimal}
use Rattle.std.proofs.lemmas.Str.Parse.{IsNumeralModel, numerals_by_value}
use Rattle.fibs_fields.specs.Decimal.{is_positive, is_zero, decimal_value, allows, number_in, number_if_allowed}
use Rattle.fibs_fields.specs.DecimalReading.{IsNarrow}
use Rattle.fibs_fields.specs.declared.values.Values.{Values}
use Rattle.fibs_fields.specs.declared.fault.Fault.TheVariants.{OutOfRange}
use Rattle.fibs_fields.specs.declared.fault.Fault.{Fault}
use Rattle.fibs_fields.proofs.NumberLemmas.CappedNumbers.{allowed_narrow}
use lib.Signed.{mag}

-- the numerals of base 10
pub own : IsNumeralModel (λ ds. list_all is_ascii_digit ds ≡ true) (digits_value 10)
own = numerals_by_value _ (search rules)

-- what the test says
pub record Positive (ds : List ℕ) : Type 0 where
  pub some : 0 < length ds
  pub lead : get_or ds 0 0 ≢ 48
  pub digits : list_all is_ascii_digit ds ≡ true

-- the test decides it
pub positive_parts : (ds : List ℕ) → is_positive ds ≡ true → Positive ds
positive_parts ds p =
    let parts = and_parts (nat_lt 0 (length ds) && not (get_or ds 0 0 == 48)) (list_all is_ascii_digit ds) p in
    let front = and_parts (nat_lt 0 (length ds)) (not (get_or ds 0 0 == 48)) parts.0 in
    record {
      some = grind (arith, nat_tests, front.0);
      lead = grind (arith, nat_tests, front.1);
      digits = parts.1;
    }

-- and the other way round
pub positive_from : (ds : List ℕ) → Positive ds → is_positive ds ≡ true
positive_from ds p =
    let some : 0 < length ds = p.some in
    let lead : get_or ds 0 0 ≢ 48 = p.lead in
    let front : (nat_lt 0 (length ds) && not (get_or ds 0 0 == 48)) ≡ true = grind (arith, nat_tests) in
    and_from (nat_lt 0 (length ds) && not (get_or ds 0 0 == 48)) (list_all is_ascii_digit ds) front p.digits

-- digits that begin with no 0 are what is written of their number
pub positive_spelled : (ds : List ℕ) → Positive ds → digits_value 10 ds < 2 ^ 64 → decimal (digits_value 10 ds) ≡ ds
positive_spelled ds p limit =
    decimal-digits_value own ds p.digits p.some (λ zero_first. absurd (p.lead zero_first)) limit

-- such digits are worth something
pub positive_value : (ds : List ℕ) → Positive ds → 0 < digits_value 10 ds
positive_value ds p = ⊎_elim (λ above. above)
    (λ none.
    let is : digits_value 10 ds ≡ 0 = omega arith in
    let text : ds ≡ 48 ∷ [] = sym (positive_spelled ds p (omega arith)) ∙ ap decimal is ∙ decimal_digit 0 (lit< tt) in
    absurd (p.lead (ap (λ (l : List ℕ). get_or l 0 0) text)))
    (cases_lt 0 (digits_value 10 ds))

-- what is written of a number above 0 is digits that begin with no 0
pub written_positive : (n : ℕ) → 0 < n → n < 2 ^ 64 → Positive (decimal n)
written_positive n above limit = record {
  some = decimal_nonempty n limit;
  lead = λ zero_first. omega (arith, first_decimal n above limit);
  digits = digits_decimal own n limit;
}

-- digits have their number
pub plain_value : (ds : List ℕ) → Positive ds → decimal_value ds ≡ Some (pos (digits_value 10 ds))
plain_value ds p =
    let low : 48 ≤ get_or ds 0 0 = digit_low ds 0 p.digits p.some in
    let minus : starts_with_minus ds ≡ false = grind (arith, nat_tests) in
    rw (minus, positive_from ds p, or-true (is_zero ds)) refl

-- after a `-` they have the one below 0
pub minus_value : (ds : List ℕ) → Positive ds → decimal_value (45 ∷ ds) ≡ Some (neg_ℤ (pos (digits_value 10 ds)))
minus_value ds p = rw (positive_from ds p) refl

-- what is written of a number has that number
pub decimal_value-spelled : (z : ℤ) → mag z < 2 ^ 63 → decimal_value (signed_decimal z) ≡ Some z
decimal_value-spelled (pos zero) limit = ap decimal_value (decimal_digit 0 (lit< tt))
decimal_value-spelled (pos (suc n)) limit =
    plain_value (decimal (suc n)) (written_positive (suc n) (omega arith) (omega arith))
    ∙ ap (λ m. Some (pos m)) (digits_value-decimal own (suc n) (omega arith))
decimal_value-spelled (negsuc n) limit =
    minus_value (decimal (suc n)) (written_positive (suc n) (omega arith) (omega arith))
    ∙ ap (λ m. Some (neg_ℤ (pos m))) (digits_value-decimal own (suc n) (omega arith))

-- and are what is written of it
minus_spelled : (ds : List ℕ) (n : ℕ) (z : ℤ) → Positive ds → digits_value 10 ds ≡ n → neg_ℤ (pos n) ≡ z
    → mag z < 2 ^ 63 → 45 ∷ ds ≡ signed_decimal z
minus_spelled ds zero z p is e limit = absurd (omega (arith, positive_value ds p))
minus_spelled ds (suc n) z p is e limit =
    let limit-n : n < 2 ^ 63 = subst (λ (y : ℤ). mag y < 2 ^ 63) (sym e) limit in
    ap (λ l. 45 ∷ l) (sym (positive_spelled ds p (omega arith)) ∙ ap decimal is) ∙ ap signed_decimal e

-- the text of 0
pub zero_text : (text : List ℕ) → is_zero text ≡ true → text ≡ 48 ∷ []
zero_text [] e = cc
zero_text (c ∷ []) e = ap (λ b. b ∷ []) (grind (arith, nat_tests))
zero_text (c ∷ d ∷ cs) e = absurd (grind (arith, nat_tests))

-- the number of a canonical decimal is written so
pub decimal_is_spelled : (text : List ℕ) (z : ℤ) → decimal_value text ≡ Some z → mag z < 2 ^ 63
    → text ≡ signed_decimal z
decimal_is_spelled [] z e limit = cc
decimal_is_spelled (c ∷ cs) z e limit = ⊎_elim
    (λ minus.
    let is : c ≡ 45 = grind (arith, nat_tests) in
    let found = cond_some (is_positive cs) (neg_ℤ (pos (digits_value 10 cs))) z (rw minus at e) in
    ap (λ b. b ∷ cs) is ∙ minus_spelled cs (digits_value 10 cs) z (positive_parts cs found.0) refl found.1 limit)
    (λ plain.
    let found =
    cond_some (is_zero (c ∷ cs) || is_positive (c ∷ cs)) (pos (digits_value 10 (c ∷ cs))) z (rw plain at e) in
    let limit-n : digits_value 10 (c ∷ cs) < 2 ^ 63 = subst (λ (y : ℤ). mag y < 2 ^ 63) (sym found.1) limit in
    ⊎_elim
    (λ (is-zero : is_zero (c ∷ cs) ≡ true).
    let text : c ∷ cs ≡ 48 ∷ [] = zero_text (c ∷ cs) is-zero in
    let number : pos 0 ≡ z = sym (ap (λ (l : List ℕ). pos (digits_value 10 l)) text) ∙ found.1 in
    text ∙ sym (decimal_digit 0 (lit< tt)) ∙ ap signed_decimal number)
    (λ (is-positive : is_positive (c ∷ cs) ≡ true).
    sym (positive_spelled (c ∷ cs) (positive_parts (c ∷ cs) is-positive) (omega arith)) ∙ ap signed_decimal found.1)
    (or_cases (is_zero (c ∷ cs)) (is_positive (c ∷ cs)) found.0))
    (cases_Bool (c == 45))

-- a field's number, and what is written of it
ok_same : (y z : ℤ) → ◌≡◌ {A = Result ℤ Fault} (Ok y) (Ok z) → y ≡ z
ok_same y z e = cc

-- a fault is no number
err_is_no_ok : (f : Fault) (z : ℤ) → ◌≡◌ {A = Result ℤ Fault} (Err f) (Ok z) → ⊥
err_is_no_ok f z e = cc

-- a number that is read is allowed
pub value_allowed : (values : Values) (found : Option ℤ) (z : ℤ) → number_if_allowed values found ≡ Ok z
    → (found ≡ Some z) × (allows values z ≡ true)
value_allowed values None z h = cc
value_allowed values (Some y) z h = ⊎_elim
    (λ (holds : allows values y ≡ true).
    let same : y ≡ z = ok_same y z (rw holds at h) in
    (ap Some same, ap (allows values) (sym same) ∙ holds))
    (λ (fails : allows values y ≡ false). absurd (err_is_no_ok OutOfRange z (rw fails at h)))
    (cases_Bool (allows values y))

-- a number that is read is written so
pub number_in_spelled : (values : Values) (text : List ℕ) (z : ℤ) → IsNarrow values → number_in values text ≡ Ok z
    → (text ≡ signed_decimal z) × (allows values z ≡ true)
number_in_spelled values text z fits e =
    let found = value_allowed values (decimal_value text) z e in
    let narrow : FitsSigned w32 z = allowed_narrow values z fits found.1 in
    (decimal_is_spelled text z found.0 (omega (arith, narrow.sfits)), found.1)

-- what is written of a number is read
pub number_in-written : (values : Values) (z : ℤ) → IsNarrow values → allows values z ≡ true
    → number_in values (signed_decimal z) ≡ Ok z
number_in-written values z fits holds =
    let narrow : FitsSigned w32 z = allowed_narrow values z fits holds in
    let read : decimal_value (signed_decimal z) ≡ Some z = decimal_value-spelled z (omega (arith, narrow.sfits)) in
    ap (number_if_allowed values) read ∙ ap (λ b. cond b (Ok z) (Err OutOfRange)) holds
