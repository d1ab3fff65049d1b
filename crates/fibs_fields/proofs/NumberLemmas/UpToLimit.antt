-- A canonical decimal without sign that is not above a limit, and its number.
use Rattle.std.proofs.Common.{◌≡◌, ℕ, ◌<◌, ◌≤◌, ◌^◌, ◌&&◌, ◌||◌, true, false, cond, List, Some, None, Result, Ok, Err, arith, refl, sym, ap, ◌∙◌, inl, inr, nat_le, nat_lt}
use Rattle.std.specs.Prelude.{◌↔◌, Option}
use Rattle.std.specs.Fmt.{decimal}
use Rattle.std.specs.Str.Parse.{digits_value}
use Rattle.std.proofs.lemmas.Bool.{and_parts, and_from, cases_Bool, le-leb}
use Rattle.std.proofs.lemmas.Bool.Decides.{nat_tests}
use Rattle.std.proofs.lemmas.Fmt.{digits_value-decimal}
use Rattle.std.proofs.lemmas.Option.{cond_some}
use Rattle.fibs_fields.specs.Decimal.{is_positive, is_zero, decimal_up_to}
use Rattle.fibs_fields.specs.DecimalReading.{unsigned_value}
use Rattle.fibs_fields.specs.declared.fault.Fault.{Fault}
use Rattle.fibs_fields.proofs.FieldLemmas.FieldValues.{decimal_form}
use Rattle.fibs_fields.proofs.NumberLemmas.Naturals.{plain_spelled}
use Rattle.fibs_fields.proofs.NumberLemmas.Spelled.{own}

-- what is read is written so
up_to_tells : (limit n : ℕ) (text : List ℕ) → limit < 2 ^ 64 → decimal_up_to limit text ≡ Some n
    → (text ≡ decimal n) × (n ≤ limit)
unfolding decimal_up_to
up_to_tells limit n text few h =
    let found =
    cond_some ((is_zero text || is_positive text) && nat_le (digits_value 10 text) limit) (digits_value 10 text) n
    h in
    let parts = and_parts (is_zero text || is_positive text) (nat_le (digits_value 10 text) limit) found.0 in
    let under : digits_value 10 text ≤ limit = (let test = parts.1 in grind (arith, nat_tests)) in
    let small : n ≤ limit = omega (arith, found.1, under) in
    (plain_spelled text n parts.0 found.1 (omega arith), small)

-- what is written so is read
up_to_from : (limit n : ℕ) → limit < 2 ^ 64 → n ≤ limit → decimal_up_to limit (decimal n) ≡ Some n
unfolding decimal_up_to
up_to_from limit n few small =
    let value : digits_value 10 (decimal n) ≡ n = digits_value-decimal own n (omega arith) in
    let within : nat_le (digits_value 10 (decimal n)) limit ≡ true = grind (arith, nat_tests) in
    let test =
    and_from (is_zero (decimal n) || is_positive (decimal n)) (nat_le (digits_value 10 (decimal n)) limit)
    (decimal_form n (omega arith)) within in
    ap (λ t. cond t (Some (digits_value 10 (decimal n))) None) test ∙ ap Some value

-- both ways
pub up_to_exact : (limit n : ℕ) (text : List ℕ) → limit < 2 ^ 64
    → (decimal_up_to limit text ≡ Some n) ↔ ((text ≡ decimal n) × (n ≤ limit))
up_to_exact limit n text few = (
  up_to_tells limit n text few,
  λ h. ap (decimal_up_to limit) h.0 ∙ up_to_from limit n few h.1,
)

-- what a reader of 64 bits gave, if it is not above the limit
abbrev limited : ℕ → Result ℕ Fault → Option ℕ
limited limit (Ok n) = cond (nat_le n limit) (Some n) None
limited limit (Err f) = None

-- a number above 64 bits is above the limit
too_long : (limit v : ℕ) → limit < 2 ^ 64 → nat_lt v (2 ^ 64) ≡ false → nat_le v limit ≡ false
too_long limit v few h = grind (arith, nat_tests)

-- the reader of 64 bits, and then the limit
up_to_of : (limit : ℕ) (text : List ℕ) → limit < 2 ^ 64 → limited limit (unsigned_value text) ≡ decimal_up_to limit text
unfolding decimal_up_to
up_to_of limit text few = elim (cases_Bool (is_zero text || is_positive text)) [
  | inr other ↦ rw other refl
  | inl form ↦ elim (cases_Bool (nat_lt (digits_value 10 text) (2 ^ 64))) [
    | inl short ↦ rw (form, short) refl
    | inr long ↦ rw (form, long, too_long limit (digits_value 10 text) few long) refl
  ]
]

-- a number that is not above it
pub up_to_found : (limit n : ℕ) (text : List ℕ) (r : Result ℕ Fault) → limit < 2 ^ 64 → r ≡ unsigned_value text
    → r ≡ Ok n → n ≤ limit → Some n ≡ decimal_up_to limit text
up_to_found limit n text r few e is small =
    sym (ap (λ t. cond t (Some n) None) (le-leb n limit small)) ∙ ap (limited limit) (sym is ∙ e)
    ∙ up_to_of limit text few

-- one that is above it
pub up_to_above : (limit n : ℕ) (text : List ℕ) (r : Result ℕ Fault) → limit < 2 ^ 64 → r ≡ unsigned_value text
    → r ≡ Ok n → limit < n → None ≡ decimal_up_to limit text
up_to_above limit n text r few e is above =
    let test : nat_le n limit ≡ false = grind (arith, nat_tests) in
    sym (ap (λ t. cond t (Some n) None) test) ∙ ap (limited limit) (sym is ∙ e) ∙ up_to_of limit text few

-- none
pub up_to_refused : (limit : ℕ) (text : List ℕ) (r : Result ℕ Fault) (f : Fault) → limit < 2 ^ 64
    → r ≡ unsigned_value text → r ≡ Err f → None ≡ decimal_up_to limit text
up_to_refused limit text r f few e is = ap (limited limit) (sym is ∙ e) ∙ up_to_of limit text few

-- what is so of what the definition gives
pub exact_of : (limit : ℕ) (text : List ℕ) (o : Option ℕ) → limit < 2 ^ 64 → o ≡ decimal_up_to limit text
    → (n : ℕ) → (o ≡ Some n) ↔ ((text ≡ decimal n) × (n ≤ limit))
exact_of limit text o few e n =
    let exact = up_to_exact limit n text few in
    (λ h. exact.0 (sym e ∙ h), λ h. e ∙ exact.1 h)
