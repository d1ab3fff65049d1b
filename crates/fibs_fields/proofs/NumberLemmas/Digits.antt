-- Digits and the numbers that they write.
use Rattle.std.proofs.Common.{◌≡◌, ℕ, ◌<◌, ◌^◌, ◌∙◌, refl, rules, List, true, length, get_or, arith, ◌≤◌, ◌-◌, ◌+◌, ◌*◌, zero, suc, [], ◌∷◌, take}
use Rattle.std.specs.Char.{is_ascii_digit, digit_value}
use Rattle.std.specs.List.{list_all}
use Rattle.std.proofs.lemmas.List.{length-take-le}
use Rattle.std.proofs.lemmas.List.Folds.{list_all_more}
use Rattle.std.proofs.lemmas.Str.Parse.{numerals_by_value, digits_value_short}
use Rattle.std.proofs.lemmas.List.Sums.{AllPass-from_list_all}
use Rattle.std.proofs.lemmas.List.Elements.{All-get_or}
use Rattle.std.proofs.lemmas.Int.Digits.{digits_value_more}
use Rattle.std.specs.Str.Parse.{digits_value, digits_value_after}
use Rattle.std.proofs.lemmas.Bool.Decides.{nat_tests}

-- each of the digits is one
pub digit_at : (ds : List ℕ) (i : ℕ) → list_all is_ascii_digit ds ≡ true → i < length ds
    → is_ascii_digit (get_or ds i 0) ≡ true
digit_at ds i all within =
    All-get_or (λ d. is_ascii_digit d ≡ true) ds i 0 within (AllPass-from_list_all is_ascii_digit ds all)

-- a digit lies between `0` and `9`
pub is_digit_range : (c : ℕ) → is_ascii_digit c ≡ true → (48 ≤ c) × (c < 58) × (digit_value c ≡ c - 48)
is_digit_range c h = grind (arith, nat_tests)

-- it is at least `0`
pub digit_low : (ds : List ℕ) (i : ℕ) → list_all is_ascii_digit ds ≡ true → i < length ds → 48 ≤ get_or ds i 0
digit_low ds i all within = (is_digit_range (get_or ds i 0) (digit_at ds i all within)).0

-- its value is what it is above `0`
pub digit_value_is : (ds : List ℕ) (i : ℕ) → list_all is_ascii_digit ds ≡ true → i < length ds
    → digit_value (get_or ds i 0) ≡ get_or ds i 0 - 48
digit_value_is ds i all within = (is_digit_range (get_or ds i 0) (digit_at ds i all within)).2

-- digits after a number only add to it
worth_after-ge : (n : ℕ) (ds : List ℕ) → n ≤ digits_value_after 10 n ds
worth_after-ge n [] = omega arith
worth_after-ge n (d ∷ ds) = let more = worth_after-ge (n * 10 + digit_value d) ds in omega arith

-- the front of digits is worth no more than all
worth_after_front : (n k : ℕ) (ds : List ℕ) → digits_value_after 10 n (take k ds) ≤ digits_value_after 10 n ds
worth_after_front n zero ds = worth_after-ge n ds
worth_after_front n (suc k) [] = omega arith
worth_after_front n (suc k) (d ∷ ds) = worth_after_front (n * 10 + digit_value d) k ds

-- digits are worth no less than those at their front
pub front_worth : (k : ℕ) (ds : List ℕ) → digits_value 10 (take k ds) ≤ digits_value 10 ds
front_worth k ds = worth_after_front 0 k ds

-- digits whose front and next one are worth too much are so too
pub too_large : (limit i : ℕ) (ds : List ℕ) → list_all is_ascii_digit ds ≡ true → i < length ds
    → limit ≤ digits_value 10 (take i ds) * 10 + (get_or ds i 0 - 48) → limit ≤ digits_value 10 ds
too_large limit i ds all within large =
    omega (arith, front_worth (i + 1) ds, digits_value_more 10 ds i within, digit_value_is ds i all within)

-- 18 digits leave room for one more in 64 bits
pub front_room : (ds : List ℕ) (i : ℕ) → list_all is_ascii_digit (take i ds) ≡ true → length ds ≤ 19 → i < length ds
    → digits_value 10 (take i ds) < 10 ^ 18
front_room ds i all short within =
    digits_value_short (numerals_by_value (λ cs. list_all is_ascii_digit cs ≡ true) (search rules)) (take i ds) 18 all
    (omega (arith, length-take-le i ds (search arith)))

-- digits and one more are digits
pub front_more : (ds : List ℕ) (i : ℕ) → list_all is_ascii_digit (take i ds) ≡ true → i < length ds
    → is_ascii_digit (get_or ds i 0) ≡ true → list_all is_ascii_digit (take (i + 1) ds) ≡ true
front_more ds i all within digit = list_all_more is_ascii_digit ds i 0 within ∙ rw (all, digit) refl
