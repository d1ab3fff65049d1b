-- How long numbers are that fit their fields.
use Rattle.std.proofs.Common.{◌≡◌, ℕ, zero, suc, ◌<◌, ◌≤◌, ◌+◌, ◌^◌, max, true, false, cond, ⊎_elim, List, [], ◌∷◌, length, get_or, take, arith, refl, sym, ap, ◌∙◌, nat_lt, add-one, length-append}
use Rattle.std.specs.Prelude.{ℤ, pos, negsuc, int_le, FitsSigned}
use Rattle.std.specs.Fmt.{decimal, signed_decimal}
use Rattle.std.specs.List.{All}
use Rattle.std.proofs.lemmas.Bool.{and_parts, or_cases, cases_Bool, false≢true}
use Rattle.std.specs.Ordering.{int_eq}
use Rattle.std.proofs.lemmas.Bool.Decides.{nat_tests}
use Rattle.std.proofs.lemmas.Fmt.{length-decimal-le}
use Rattle.std.proofs.lemmas.List.Elements.{All-head, All-tail}
use Rattle.fibs_fields.specs.Board.{Fit, field_values}
use Rattle.fibs_fields.specs.Decimal.{allows}
use Rattle.fibs_fields.specs.DecimalReading.{IsNarrow}
use Rattle.fibs_fields.specs.Numerals.{after_colons}
use Rattle.fibs_fields.proofs.NumberLemmas.CappedNumbers.{allowed_narrow}
use Rattle.std.specs.Int.{w32}
use Rattle.fibs_fields.specs.declared.values.Values.{Values}
use Rattle.fibs_fields.specs.declared.values.Values.TheVariants.{Between, Either}
use lib.Signed.{mag}

-- at least as many as the digits of a number of at most ten
abbrev pub digit_count : ℕ → ℕ
digit_count n =
    cond (nat_lt n 10) 1
    (cond (nat_lt n 100) 2 (cond (nat_lt n 10000) 4 (cond (nat_lt n 10000000) 7 (cond (nat_lt n 100000000) 8 10))))

-- at least as many as the bytes of a number
abbrev pub width : ℤ → ℕ
width (pos n) = digit_count n
width (negsuc n) = 1 + digit_count (suc n)

-- at least as many as the bytes of each number that a field may have
abbrev pub most_bytes : Values → ℕ
most_bytes (Between low high) = max (width low) (width high)
most_bytes (Either one other) = max (width one) (width other)

-- a length that is small for each small number
by_count : (n k : ℕ) → (n < 10 → k ≤ 1) → (n < 100 → k ≤ 2) → (n < 10000 → k ≤ 4) → (n < 10000000 → k ≤ 7)
    → (n < 100000000 → k ≤ 8) → k ≤ 10 → k ≤ digit_count n
by_count n k one two four seven eight ten = grind (arith, nat_tests)

-- a decimal is no longer
pub decimal_short : (n : ℕ) → n < 10000000000 → length (decimal n) ≤ digit_count n
decimal_short n limit =
    let one : n < 10 → length (decimal n) ≤ 1 = λ h. length-decimal-le 1 n (omega arith) h (omega arith) in
    let two : n < 100 → length (decimal n) ≤ 2 = λ h. length-decimal-le 2 n (omega arith) h (omega arith) in
    let four : n < 10000 → length (decimal n) ≤ 4 = λ h. length-decimal-le 4 n (omega arith) h (omega arith) in
    let seven : n < 10000000 → length (decimal n) ≤ 7 = λ h. length-decimal-le 7 n (omega arith) h (omega arith) in
    let eight : n < 100000000 → length (decimal n) ≤ 8 = λ h. length-decimal-le 8 n (omega arith) h (omega arith) in
    let ten : length (decimal n) ≤ 10 = length-decimal-le 10 n (omega arith) limit (omega arith) in
    by_count n (length (decimal n)) one two four seven eight ten

-- a smaller number is no longer
digit_count-le : (m n : ℕ) → m ≤ n → digit_count m ≤ digit_count n
digit_count-le m n le = grind (arith, nat_tests)

-- nor is one with a sign
pub signed_short : (z : ℤ) → mag z < 2 ^ 32 → length (signed_decimal z) ≤ width z
signed_short (pos n) limit = decimal_short n (omega arith)
signed_short (negsuc n) limit = omega (arith, decimal_short (suc n) (omega arith))

-- a number is no longer than the longer of two numbers that it lies between
width_up : (z high : ℤ) → int_le z high ≡ true → int_le (pos 0) z ≡ true → width z ≤ width high
width_up (pos n) (pos b) h up = digit_count-le n b (grind (arith, nat_tests))
width_up (pos n) (negsuc b) h up = absurd (false≢true h)
width_up (negsuc n) high h up = absurd (false≢true up)

-- the same below 0
width_down : (low z : ℤ) → int_le low z ≡ true → int_le (pos 0) z ≡ false → width z ≤ width low
width_down low (pos n) h down = absurd (false≢true (sym down ∙ grind (arith, nat_tests)))
width_down (pos a) (negsuc n) h down = absurd (false≢true h)
width_down (negsuc a) (negsuc n) h down =
    let below : n ≤ a = grind (arith, nat_tests) in
    omega (arith, digit_count-le (suc n) (suc a) (omega arith))

-- a number that a field may have is no longer than its field says
pub width-le : (values : Values) (z : ℤ) → allows values z ≡ true → width z ≤ most_bytes values
width-le (Between low high) z good =
    let parts = and_parts (int_le low z) (int_le z high) good in
    ⊎_elim
    (λ (up : int_le (pos 0) z ≡ true). omega (arith, width_up z high parts.1 up))
    (λ (down : int_le (pos 0) z ≡ false). omega (arith, width_down low z parts.0 down))
    (cases_Bool (int_le (pos 0) z))
width-le (Either one other) z good =
    ⊎_elim
    (λ (is : int_eq z one ≡ true). let same : z ≡ one = grind (arith, nat_tests) in omega (arith, ap width same))
    (λ (is : int_eq z other ≡ true). let same : z ≡ other = grind (arith, nat_tests) in omega (arith, ap width same))
    (or_cases (int_eq z one) (int_eq z other) good)

-- nor is its text
pub number_short : (values : Values) (z : ℤ) → IsNarrow values → allows values z ≡ true
    → length (signed_decimal z) ≤ most_bytes values
number_short values z fits good =
    let narrow : FitsSigned w32 z = allowed_narrow values z fits good in
    omega (arith, signed_short z (omega (arith, narrow.sfits)), width-le values z good)

-- the bytes that numbers and their colons take at most
pub total : List Values → ℕ
total [] = 0
total (v ∷ vs) = 1 + most_bytes v + total vs

-- the numbers of a board take 194 bytes at most
pub total_table : total field_values ≡ 194
unfolding field_values total
total_table = refl

-- the numbers of a board take no more bytes, with their colons, than their fields allow
pub numbers_short : (vs : List Values) (zs : List ℤ) → All IsNarrow vs → Fit vs zs → length (after_colons zs) ≤ total vs
unfolding total
numbers_short [] [] narrow h = omega arith
numbers_short [] (z ∷ zs) narrow h = absurd h
numbers_short (v ∷ vs) [] narrow h = absurd h
numbers_short (v ∷ vs) (z ∷ zs) narrow h =
    let first = number_short v z (All-head IsNarrow v vs narrow) h.0 in
    let rest = numbers_short vs zs (All-tail IsNarrow v vs narrow) h.1 in
    omega (arith, first, rest, length-append (58 ∷ signed_decimal z) (after_colons zs))

-- a number and its colon fit beside what is before them
pub room_before : (vs : List Values) (zs : List ℤ) (i : ℕ) (d : ℤ) → All IsNarrow vs → Fit vs zs → i < length zs
    → 1 + length (signed_decimal (get_or zs i d)) + total (take i vs) ≤ total (take (i + 1) vs)
unfolding total
room_before [] [] i d narrow h within = absurd (omega arith)
room_before [] (z ∷ zs) i d narrow h within = absurd h
room_before (v ∷ vs) [] i d narrow h within = absurd h
room_before (v ∷ vs) (z ∷ zs) zero d narrow h within =
    omega (arith, number_short v z (All-head IsNarrow v vs narrow) h.0)
room_before (v ∷ vs) (z ∷ zs) (suc i) d narrow h within =
    let rest = rw (add-one) at (room_before vs zs i d (All-tail IsNarrow v vs narrow) h.1 (omega arith)) in
    rw (add-one) (omega (arith, rest))
