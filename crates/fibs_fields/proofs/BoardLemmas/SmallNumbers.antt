-- Numbers that are kept in a byte each, among others.
use Rattle.std.proofs.Common.{◌≡◌, ℕ, ◌<◌, ◌≤◌, ◌+◌, ◌-◌, true, List, [], ◌∷◌, ◌++◌, length, take, drop, get_or, arith, sym, ap, ◌∙◌, subst, nat_le, false, zero, suc, ⊎_elim, take_all, length-drop}
use Rattle.std.proofs.Math.ListN.{drop_of_length-le}
use Rattle.std.proofs.lemmas.Bool.{cases_Bool}
use Rattle.std.proofs.lemmas.Bool.Decides.{nat_tests}
use Rattle.std.specs.Prelude.{ℤ, pos, negsuc, ◌≤ℤ◌, slice_get, slice_set, FitsSigned}
use Rattle.std.specs.Int.{w8}
use Rattle.std.proofs.lemmas.Int.{ints}
use Rattle.std.proofs.lemmas.List.{set-append_left, set-append_right, take_more, take_more_set, get_or-drop, take-append-drop}
use Rattle.fibs_fields.specs.Board.{Fit, allowed_by, can_have, field_values}
use Rattle.fibs_fields.proofs.BoardLemmas.FieldGroups.{can_have_by}
use Rattle.fibs_fields.proofs.BoardLemmas.FieldRangeLaws.{field_ranges}
use Rattle.fibs_fields.proofs.BoardLemmas.FieldTable.{table_long}
use Rattle.fibs_fields.proofs.BoardLemmas.OneNumberMore.{fit_at}

-- a number from -14 to 15 fits a byte
byte_fits : (z : ℤ) → negsuc 14 ≤ℤ z → z ≤ℤ pos 15 → FitsSigned w8 z
byte_fits (pos n) low high = grind (arith, ints)
byte_fits (negsuc n) low high = grind (arith, ints)

-- what the turn and the dice may be is from -1 to 6
turn_or_die : (n : ℕ) (z : ℤ) → 33 ≤ n → n ≤ 37 → can_have n z ≡ true → (negsuc 14 ≤ℤ z) × (z ≤ℤ pos 15)
turn_or_die n z low high may = ⊎_elim
    (λ (is : nat_le n 33 ≡ true). let turn = (field_ranges.turn n z (grind (arith, nat_tests))).0 may in
    (omega (arith, ints, turn), omega (arith, ints, turn)))
    (λ (is : nat_le n 33 ≡ false). let die = (field_ranges.dice n z (grind (arith, nat_tests)) high).0 may in
    (omega (arith, ints, die), omega (arith, ints, die)))
    (cases_Bool (nat_le n 33))

-- what fields 7 to 37 may have fits a byte
pub small_fits : (n : ℕ) (z : ℤ) → 7 ≤ n → n ≤ 37 → can_have n z ≡ true → FitsSigned w8 z
small_fits n z low high may = ⊎_elim
    (λ (is : nat_le n 32 ≡ true). let place = (field_ranges.place n z low (grind (arith, nat_tests))).0 may in
    byte_fits z place.0 place.1)
    (λ (is : nat_le n 32 ≡ false). let other = turn_or_die n z (grind (arith, nat_tests)) high may in
    byte_fits z other.0 other.1)
    (cases_Bool (nat_le n 32))

-- a change in the first part of a list of three parts
pub set_first : (xs ys zs : List ℤ) (i : ℕ) (z : ℤ) → i < length xs
    → slice_set xs i z ++ (ys ++ zs) ≡ slice_set (xs ++ (ys ++ zs)) i z
set_first xs ys zs i z within = sym (set-append_left xs (ys ++ zs) i z within)

-- in the middle
pub set_middle : (xs ys zs : List ℤ) (n i : ℕ) (z : ℤ) → length xs ≡ n → n ≤ i → i - n < length ys
    → xs ++ (slice_set ys (i - n) z ++ zs) ≡ slice_set (xs ++ (ys ++ zs)) i z
set_middle xs ys zs n i z long low within =
    sym (set-append_right xs (ys ++ zs) n i z long low ∙ ap (λ l. xs ++ l) (set-append_left ys zs (i - n) z within))

-- in the last
pub set_last : (xs ys zs : List ℤ) (n m i : ℕ) (z : ℤ) → length xs ≡ n → length ys ≡ m → n + m ≤ i
    → xs ++ (ys ++ slice_set zs (i - (n + m)) z) ≡ slice_set (xs ++ (ys ++ zs)) i z
set_last xs ys zs n m i z long wide low =
    let there : i - n - m ≡ i - (n + m) = omega arith in
    sym (set-append_right xs (ys ++ zs) n i z long (omega arith)
    ∙ ap (λ l. xs ++ l)
    (set-append_right ys zs m (i - n) z wide (omega arith) ∙ ap (λ k. ys ++ slice_set zs k z) there))

-- one more number of a list, after those up to a place
pub copied_more : (xs ys : List ℤ) (n i : ℕ) (z : ℤ) → i < length xs → n + i < length ys → z ≡ get_or ys (n + i) (pos 0)
    → i < length (drop n ys) → take i xs ≡ take i (drop n ys)
    → take (i + 1) (slice_set xs i z) ≡ take (i + 1) (drop n ys)
copied_more xs ys n i z within inside is there h =
    take_more_set xs i z within ∙ ap (λ l. l ++ z ∷ []) h
    ∙ ap (λ y. take i (drop n ys) ++ y ∷ []) (is ∙ sym (get_or-drop n ys i (pos 0)))
    ∙ sym (take_more (drop n ys) i (pos 0) there)

-- what is left of a list after two fronts of it
drop_twice : (n m : ℕ) (l : List ℤ) → drop m (drop n l) ≡ drop (n + m) l
drop_twice zero m l = let e : m ≡ 0 + m = omega arith in ap (λ k. drop k l) e
drop_twice (suc n) m [] =
    drop_of_length-le [] {i = m} (omega arith) ∙ sym (drop_of_length-le [] {i = suc n + m} (omega arith))
drop_twice (suc n) m (z ∷ zs) =
    let e : suc (n + m) ≡ suc n + m = omega arith in drop_twice n m zs ∙ ap (λ k. drop k (z ∷ zs)) e

-- fifty numbers in three parts
pub joined : (l a b c : List ℤ) → length l ≡ 50 → a ≡ take 3 l → b ≡ take 31 (drop 3 l) → c ≡ take 16 (drop 34 l)
    → a ++ (b ++ c) ≡ l
joined l a b c fifty first middle last =
    let all : take 16 (drop 34 l) ≡ drop 34 l = take_all 16 (drop 34 l) (omega (arith, fifty, length-drop 34 l)) in
    let rest : c ≡ drop 31 (drop 3 l) = last ∙ all ∙ sym (drop_twice 3 31 l) in
    rw (first, middle, rest) (ap (λ r. take 3 l ++ r) (take-append-drop 31 (drop 3 l)) ∙ take-append-drop 3 l)

-- the numbers of fields 7 to 37 fit a byte
pub small_at : (zs : List ℤ) (i : ℕ) → Fit field_values zs → i < 31 → FitsSigned w8 (get_or zs (i + 3) (pos 0))
small_at zs i fit within =
    let z = get_or zs (i + 3) (pos 0) in
    let there : i + 3 ≡ i + 7 - 4 = omega arith in
    let allowed = fit_at field_values zs (i + 3) (pos 0) fit (omega (arith, table_long)) in
    small_fits (i + 7) z (omega arith) (omega arith)
    (can_have_by (i + 7) z (omega arith) (subst (λ k. allowed_by (slice_get field_values k) z ≡ true) there allowed))
