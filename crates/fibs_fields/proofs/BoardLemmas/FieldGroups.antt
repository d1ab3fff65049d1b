-- Which numbers the fields of a group of the table may have.
use Rattle.std.proofs.Common.{◌≡◌, ℕ, ◌<◌, ◌≤◌, ◌+◌, ◌-◌, true, false, Some, arith, refl, nat_le, ⊎_elim, inl, inr, ◌⊎◌, zero, suc, List, [], ◌∷◌, ◌++◌, replicate, drop, sym, ap, ◌∙◌}
use Rattle.std.specs.Prelude.{ℤ, ◌≤ℤ◌, int_le, slice_get, ◌↔◌}
use Rattle.std.specs.Ordering.{int_eq}
use Rattle.std.proofs.lemmas.Int.{ints}
use Rattle.std.proofs.lemmas.Bool.{and_parts, and_from, and_left, or_cases}
use Rattle.std.proofs.lemmas.Bool.Decides.{nat_tests}
use Rattle.std.proofs.lemmas.Option.{slice_get_past}
use Rattle.std.proofs.Math.Bool.{or-true}
use Rattle.fibs_fields.specs.Board.{can_have, allowed_by, field_values}
use Rattle.fibs_fields.specs.Decimal.{allows}
use Rattle.fibs_fields.specs.FieldRanges.{Exactly}
use Rattle.fibs_fields.specs.declared.values.Values.{Values}
use Rattle.fibs_fields.specs.declared.values.Values.TheVariants.{Between, Either}
use Rattle.fibs_fields.proofs.BoardLemmas.FieldTable.{table_long}

-- no field below 4 has a number
pub can_have_low : (n : ℕ) (z : ℤ) → n < 4 → can_have n z ≡ false
can_have_low n z low =
    let test : nat_le 4 n ≡ false = grind (arith, nat_tests) in
    and_left (nat_le 4 n) (allowed_by (slice_get field_values (n - 4)) z) test

-- nor has one above 53
pub can_have_high : (n : ℕ) (z : ℤ) → 53 < n → can_have n z ≡ false
can_have_high n z high =
    let none = slice_get_past field_values (n - 4) (omega (arith, table_long)) in
    let test : nat_le 4 n ≡ true = grind (arith, nat_tests) in
    rw (test, none) refl

-- a field may have what its entry allows
pub can_have_at : (n : ℕ) (z : ℤ) (values : Values) → 4 ≤ n → slice_get field_values (n - 4) ≡ Some values
    → can_have n z ≡ allows values z
can_have_at n z values low here =
    let test : nat_le 4 n ≡ true = grind (arith, nat_tests) in
    rw (test, here) refl

-- and so it has a number that its entry allows
pub can_have_by : (n : ℕ) (z : ℤ) → 4 ≤ n → allowed_by (slice_get field_values (n - 4)) z ≡ true → can_have n z ≡ true
can_have_by n z low here =
    let test : nat_le 4 n ≡ true = grind (arith, nat_tests) in
    rw (test, here) refl

-- the entries of a group are alike
from_front : (n : ℕ) (x : Values) (ys : List Values) (j : ℕ) → j < n → slice_get (replicate n x ++ ys) j ≡ Some x
from_front zero x ys j within = absurd (omega arith)
from_front (suc n) x ys zero within = refl
from_front (suc n) x ys (suc j) within = from_front n x ys j (omega arith)

-- an entry that comes after others
after_drop : (k : ℕ) (xs : List Values) (i : ℕ) → k ≤ i → slice_get xs i ≡ slice_get (drop k xs) (i - k)
after_drop zero xs i low = ap (slice_get xs) (omega arith)
after_drop (suc k) [] i low = refl
after_drop (suc k) (x ∷ xs) zero low = absurd (omega arith)
after_drop (suc k) (x ∷ xs) (suc i) low =
    let e : suc i - suc k ≡ i - k = omega arith in rw e (after_drop k xs i (omega arith))

-- the fields of a group that begins at field 4 + k have the group's values
in_group : (k count : ℕ) (x : Values) (ys : List Values) → drop k field_values ≡ replicate count x ++ ys → (n : ℕ)
    → k + 4 ≤ n → n < k + 4 + count → slice_get field_values (n - 4) ≡ Some x
in_group k count x ys group n low high =
    after_drop k field_values (n - 4) (omega arith) ∙ ap (λ l. slice_get l (n - 4 - k)) group
    ∙ from_front count x ys (n - 4 - k) (omega arith)

-- a range allows just its numbers
pub between_exact : (low high z : ℤ) → (allows (Between low high) z ≡ true) ↔ ((low ≤ℤ z) × (z ≤ℤ high))
between_exact low high z = (
  (λ h. let parts = and_parts (int_le low z) (int_le z high) h in
      (grind (arith, ints, parts.0), grind (arith, ints, parts.1))),
  (λ h. and_from (int_le low z) (int_le z high) (grind (arith, ints, h.0)) (grind (arith, ints, h.1))),
)

-- two numbers allow just these
pub either_exact : (one other z : ℤ) → (allows (Either one other) z ≡ true) ↔ ((z ≡ one) ⊎ (z ≡ other))
either_exact one other z = (
  (λ h. ⊎_elim (λ (is : int_eq z one ≡ true). inl (grind (arith, nat_tests)))
      (λ (is : int_eq z other ≡ true). inr (grind (arith, nat_tests))) (or_cases (int_eq z one) (int_eq z other) h)),
  (λ h. ⊎_elim (λ (is : z ≡ one). let e : int_eq z one ≡ true = grind (arith, nat_tests) in rw e refl)
      (λ (is : z ≡ other). let e : int_eq z other ≡ true = grind (arith, nat_tests) in
      rw (e, or-true (int_eq z one)) refl) h),
)

-- the fields of a group whose entries are a range
pub in_range : (k count : ℕ) (low high : ℤ) (ys : List Values)
    → drop k field_values ≡ replicate count (Between low high) ++ ys → (n : ℕ) (z : ℤ) → k + 4 ≤ n → n < k + 4 + count
    → Exactly n z ((low ≤ℤ z) × (z ≤ℤ high))
in_range k count low high ys group n z from to =
    let same = can_have_at n z (Between low high) (omega arith) (in_group k count _ ys group n from to) in
    let exact = between_exact low high z in
    ((λ h. exact.0 (sym same ∙ h)), (λ h. same ∙ exact.1 h))

-- the fields of a group whose entries are two numbers
pub in_pair : (k count : ℕ) (one other : ℤ) (ys : List Values)
    → drop k field_values ≡ replicate count (Either one other) ++ ys → (n : ℕ) (z : ℤ) → k + 4 ≤ n → n < k + 4 + count
    → Exactly n z ((z ≡ one) ⊎ (z ≡ other))
in_pair k count one other ys group n z from to =
    let same = can_have_at n z (Either one other) (omega arith) (in_group k count _ ys group n from to) in
    let exact = either_exact one other z in
    ((λ h. exact.0 (sym same ∙ h)), (λ h. same ∙ exact.1 h))
