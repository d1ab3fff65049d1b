-- Canonical decimals of 64 bits without sign.
use Rattle.std.proofs.Common.{◌≡◌, ℕ, zero, suc, ◌<◌, ◌^◌, ◌&&◌, ◌||◌, Bool, true, false, cond, List, [], ◌∷◌, drop, Some, Ok, Err, arith, refl, sym, ap, ◌∙◌, lit<, ⊎_elim}
use Rattle.std.specs.Prelude.{ℤ, pos, negsuc, neg_ℤ}
use Rattle.std.specs.Str.Parse.{digits_value, starts_with_minus}
use Rattle.std.proofs.lemmas.Bool.{cases_Bool, and_parts, or_cases}
use Rattle.std.proofs.lemmas.Bool.Decides.{nat_tests}
use Rattle.std.proofs.lemmas.Int.{ints}
use Rattle.std.proofs.lemmas.Option.{cond_some}
use Rattle.std.proofs.lemmas.Fmt.{decimal_digit, digits_value-decimal}
use Rattle.std.specs.Fmt.{decimal}
use Rattle.fibs_fields.specs.Decimal.{is_positive, is_zero, decimal_value, allows, number_in, number_if_allowed}
use Rattle.fibs_fields.specs.Field.{number_values}
use Rattle.fibs_fields.specs.declared.fault.Fault.TheVariants.{OutOfRange}
use Rattle.fibs_fields.proofs.NumberLemmas.Spelled.{own, positive_parts, positive_spelled, positive_value, plain_value, written_positive, zero_text, value_allowed}

-- a number below 0 is out of the range
below_zero : (n : ℕ) → 0 < n → number_if_allowed number_values (Some (neg_ℤ (pos n))) ≡ Err OutOfRange
below_zero zero above = absurd (omega arith)
below_zero (suc n) above = refl

-- a number below 0 is out of range
pub negative_refused : (text : List ℕ) → (starts_with_minus text && is_positive (drop 1 text)) ≡ true
    → number_in number_values text ≡ Err OutOfRange
negative_refused text h =
    let parts = and_parts (starts_with_minus text) (is_positive (drop 1 text)) h in
    rw (parts.0, parts.1)
    (below_zero (digits_value 10 (drop 1 text))
    (positive_value (drop 1 text) (positive_parts (drop 1 text) parts.1)))

-- what is written of a number has that number
pub decimal_value-natural : (n : ℕ) → n < 2 ^ 64 → decimal_value (decimal n) ≡ Some (pos n)
decimal_value-natural zero limit = ap decimal_value (decimal_digit 0 (lit< tt))
decimal_value-natural (suc n) limit =
    plain_value (decimal (suc n)) (written_positive (suc n) (omega arith) limit)
    ∙ ap (λ m. Some (pos m)) (digits_value-decimal own (suc n) limit)

-- a number below 0 is not above it
neg_is_no_pos : (d n : ℕ) → 0 < d → neg_ℤ (pos d) ≡ pos n → ⊥
neg_is_no_pos zero n above e = omega arith
neg_is_no_pos (suc d) n above e = cc

-- one number above 0
pos_same : (m n : ℕ) → pos m ≡ pos n → m ≡ n
pos_same m n e = cc

-- digits are what is written of their number
pub plain_spelled : (text : List ℕ) (n : ℕ) → (is_zero text || is_positive text) ≡ true → digits_value 10 text ≡ n
    → n < 2 ^ 64 → text ≡ decimal n
plain_spelled text n form is limit = ⊎_elim
    (λ (is-zero : is_zero text ≡ true).
    let same : text ≡ 48 ∷ [] = zero_text text is-zero in
    let number : 0 ≡ n = sym (ap (λ (l : List ℕ). digits_value 10 l) same) ∙ is in
    same ∙ sym (decimal_digit 0 (lit< tt)) ∙ ap decimal number)
    (λ (is-positive : is_positive text ≡ true).
    sym (positive_spelled text (positive_parts text is-positive) (omega arith)) ∙ ap decimal is)
    (or_cases (is_zero text) (is_positive text) form)

-- the number of a canonical decimal is written so
pub natural_is_spelled : (text : List ℕ) (n : ℕ) → decimal_value text ≡ Some (pos n) → n < 2 ^ 64 → text ≡ decimal n
natural_is_spelled text n e limit = ⊎_elim
    (λ (minus : starts_with_minus text ≡ true).
    let found =
    cond_some (is_positive (drop 1 text)) (neg_ℤ (pos (digits_value 10 (drop 1 text)))) (pos n) (rw minus at e) in
    absurd
    (neg_is_no_pos (digits_value 10 (drop 1 text)) n
    (positive_value (drop 1 text) (positive_parts (drop 1 text) found.0)) found.1))
    (λ (plain : starts_with_minus text ≡ false).
    let found = cond_some (is_zero text || is_positive text) (pos (digits_value 10 text)) (pos n) (rw plain at e) in
    plain_spelled text n found.0 (pos_same (digits_value 10 text) n found.1) limit)
    (cases_Bool (starts_with_minus text))

-- what is written of a number of 64 bits is read
pub number_in-natural : (n : ℕ) → n < 2 ^ 64 → number_in number_values (decimal n) ≡ Ok (pos n)
number_in-natural n limit =
    let test : allows number_values (pos n) ≡ true = grind (arith, ints, nat_tests) in
    ap (number_if_allowed number_values) (decimal_value-natural n limit)
    ∙ ap (λ (b : Bool). cond b (Ok (pos n)) (Err OutOfRange)) test

-- a number of 64 bits is one above 0
in_range : (z : ℤ) → allows number_values z ≡ true → (n : ℕ) × (z ≡ pos n) × (n < 2 ^ 64)
in_range (pos n) h = (n, refl, grind (arith, ints, nat_tests))
in_range (negsuc n) h = absurd (grind (arith, ints, nat_tests))

-- a number that is read of 64 bits, and its spelling
pub record Natural (text : List ℕ) (z : ℤ) : Type 0 where
  pub number : ℕ
  pub is : z ≡ pos number
  pub small : number < 2 ^ 64
  pub text_is : text ≡ decimal number

-- a number of 64 bits that is read, and its spelling
pub natural_found : (text : List ℕ) (z : ℤ) → number_in number_values text ≡ Ok z → Natural text z
natural_found text z e =
    let found = value_allowed number_values (decimal_value text) z e in
    let range = in_range z found.1 in
    record {
      number = range.0;
      is = range.1;
      small = range.2;
      text_is =
          natural_is_spelled text range.0 (found.0 ∙ ap Some range.1) range.2;
    }
