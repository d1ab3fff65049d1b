-- What a board's fields may be, and what follows for how far its checkers have to go.
use Rattle.std.proofs.Common.{◌≡◌, ◌⊎◌, ◌<◌, ◌≤◌, ◌+◌, ◌-◌, ◌*◌, ◌^◌, ◌&&◌, ◌++◌, ℕ, zero, suc, true, List, [], ◌∷◌, refl, ap, subst, arith, lit≤, map, sum, take}
use Rattle.std.specs.Prelude.{ℤ, pos, negsuc, ◌≤ℤ◌, int_le, slice_index}
use Rattle.std.specs.Fmt.{signed_decimal}
use Rattle.std.specs.List.{range_with_len}
use Rattle.std.proofs.lemmas.Bool.{and_parts}
use Rattle.std.proofs.lemmas.Fmt.{signed_decimal_injective}
use Rattle.std.proofs.lemmas.Int.{ints}
use Rattle.std.proofs.lemmas.List.FromFn.{map-range_with_len_more}
use Rattle.std.proofs.lemmas.List.Sums.{sum_by-cons, sum_by_push}
use Rattle.std.proofs.Math.Nat.{mul-le-mul_right}
use lib.Signed.{mag}
use Rattle.fibs_fields.specs.Board.{BoardFields, IsBoard, field_of, field_values, can_have}
use Rattle.fibs_fields.specs.FieldRanges.{FieldRanges}
use Rattle.fibs_rules.specs.Checkers.{Checkers}
use Rattle.fibs_position.specs.OwnView.{own_view, own_on_places, other_on_places, own_off, other_off, own_placed, other_placed}
use Rattle.fibs_picture.specs.Picture.{own_pips, other_pips, own_pips_on, other_pips_on}

-- a number from 0 to m
abbrev pub Within : ℕ → ℤ → Type 0
Within m z = (pos 0 ≤ℤ z) × (z ≤ℤ pos m)

-- a number that is found in a range is in it
within : (m : ℕ) (z : ℤ) → (int_le (pos 0) z && int_le z (pos m)) ≡ true → Within m z
within m z h = let parts = and_parts (int_le (pos 0) z) (int_le z (pos m)) h in
    (grind (arith, ints, parts.0), grind (arith, ints, parts.1))

-- the length of the match, and the scores
pub match-within : (z : ℤ) → can_have 4 z ≡ true → Within 9999 z
unfolding field_values
match-within z h = within 9999 z h

-- the player's score has eight digits at most
pub own-score-within : (z : ℤ) → can_have 5 z ≡ true → Within 99999999 z
unfolding field_values
own-score-within z h = within 99999999 z h

-- so has the opponent's
pub other-score-within : (z : ℤ) → can_have 6 z ≡ true → Within 99999999 z
unfolding field_values
other-score-within z h = within 99999999 z h

-- such a number is short
pub mag-within : (m : ℕ) (z : ℤ) → m < 2 ^ 32 → Within m z → mag z < 2 ^ 63
mag-within m (pos n) few h = omega (arith, ints, h.1)
mag-within m (negsuc n) few h = absurd (omega (arith, ints, h.0))

-- it is known by its digits
pub number-tells : (m : ℕ) (y z : ℤ) → m < 2 ^ 32 → Within m y → Within m z → signed_decimal y ≡ signed_decimal z
    → y ≡ z
number-tells m y z few h k e = signed_decimal_injective y z (mag-within m y few h) (mag-within m z few k) e

pub record Ranges (b : BoardFields) : Type 0 where
  pub length_of : Within 9999 (field_of b 4)
  pub own_score : Within 99999999 (field_of b 5)
  pub other_score : Within 99999999 (field_of b 6)
  pub die_1 : Within 6 (field_of b 34)
  pub die_2 : Within 6 (field_of b 35)
  pub die_3 : Within 6 (field_of b 36)
  pub die_4 : Within 6 (field_of b 37)
  pub cube_is : Within 1048576 (field_of b 38)
  pub flag_1 : (field_of b 39 ≡ pos 0) ⊎ (field_of b 39 ≡ pos 1)
  pub flag_2 : (field_of b 40 ≡ pos 0) ⊎ (field_of b 40 ≡ pos 1)
  pub own_off_is : Within 15 (field_of b 46)
  pub other_off_is : Within 15 (field_of b 47)

-- a number from 1 on is not negative
from-one : (z : ℤ) → pos 1 ≤ℤ z → pos 0 ≤ℤ z
from-one z h = omega (arith, ints, h)

-- each field of a board is in its range
pub ranges-of : FieldRanges → (b : BoardFields) → IsBoard b → Ranges b
ranges-of r b board =
    let may : (n : ℕ) → 4 ≤ n → n ≤ 53 → can_have n (field_of b n) ≡ true = λ n low high. r.held b n board low high in
    let cube_range = (r.cube 38 (field_of b 38) refl).0 (may 38 (lit≤ tt) (lit≤ tt)) in
    record {
      length_of = match-within (field_of b 4) (may 4 (lit≤ tt) (lit≤ tt));
      own_score = own-score-within (field_of b 5) (may 5 (lit≤ tt) (lit≤ tt));
      other_score = other-score-within (field_of b 6) (may 6 (lit≤ tt) (lit≤ tt));
      die_1 = (r.dice 34 (field_of b 34) (lit≤ tt) (lit≤ tt)).0 (may 34 (lit≤ tt) (lit≤ tt));
      die_2 = (r.dice 35 (field_of b 35) (lit≤ tt) (lit≤ tt)).0 (may 35 (lit≤ tt) (lit≤ tt));
      die_3 = (r.dice 36 (field_of b 36) (lit≤ tt) (lit≤ tt)).0 (may 36 (lit≤ tt) (lit≤ tt));
      die_4 = (r.dice 37 (field_of b 37) (lit≤ tt) (lit≤ tt)).0 (may 37 (lit≤ tt) (lit≤ tt));
      cube_is = (from-one (field_of b 38) cube_range.0, cube_range.1);
      flag_1 = (r.flag 39 (field_of b 39) (lit≤ tt) (lit≤ tt)).0 (may 39 (lit≤ tt) (lit≤ tt));
      flag_2 = (r.flag 40 (field_of b 40) (lit≤ tt) (lit≤ tt)).0 (may 40 (lit≤ tt) (lit≤ tt));
      own_off_is = (r.off 46 (field_of b 46) (lit≤ tt) (lit≤ tt)).0 (may 46 (lit≤ tt) (lit≤ tt));
      other_off_is = (r.off 47 (field_of b 47) (lit≤ tt) (lit≤ tt)).0 (may 47 (lit≤ tt) (lit≤ tt));
    }

-- the checkers of both sides, by those on their places and those that are off
abbrev arranged : List ℕ → List ℕ → ℕ → ℕ → Checkers
arranged own other own_off other_off = record {
  own = own_off ∷ (own ++ (15 - (sum own + own_off)) ∷ []);
  other = (15 - (sum other + other_off)) ∷ (other ++ other_off ∷ []);
}

-- it is the same if its four parts are
view-eq : (p p' q q' : List ℕ) (m m' n n' : ℕ) → p ≡ p' → q ≡ q' → m ≡ m' → n ≡ n'
    → arranged p q m n ≡ arranged p' q' m' n'
view-eq p p' q q' m m' n n' a b c d = rw (a, b, c, d) refl

-- so boards with the same checkers on their places and off are seen alike
pub view-same : (a b : BoardFields) → own_on_places a ≡ own_on_places b → other_on_places a ≡ other_on_places b
    → own_off a ≡ own_off b → other_off a ≡ other_off b → own_view a ≡ own_view b
unfolding own_view
view-same a b p q r s = view-eq (own_on_places a) (own_on_places b) (other_on_places a) (other_on_places b)
    (own_off a) (own_off b) (other_off a) (other_off b) p q r s

-- no count of a place is more than all checkers
at-most-sum : (xs : List ℕ) (k : ℕ) → slice_index xs k ≤ sum xs
at-most-sum [] k = omega arith
at-most-sum (x ∷ xs) zero = omega (arith, sum_by-cons (λ n. n) x xs)
at-most-sum (x ∷ xs) (suc k) = let rest = at-most-sum xs k in omega (arith, rest, sum_by-cons (λ n. n) x xs)

-- the player's checkers that are off, on places and left over are 15
fifteen : (off : ℕ) (xs : List ℕ) → sum xs + off ≤ 15 → sum (off ∷ (xs ++ (15 - (sum xs + off)) ∷ [])) ≡ 15
fifteen off xs h =
    let rest = 15 - (sum xs + off) in
    omega (arith, sum_by-cons (λ n. n) off (xs ++ rest ∷ []), sum_by_push (λ n. n) xs rest)

-- and the opponent's
fifteen-other : (off : ℕ) (xs : List ℕ) → sum xs + off ≤ 15 → sum ((15 - (sum xs + off)) ∷ (xs ++ off ∷ [])) ≡ 15
fifteen-other off xs h =
    let rest = 15 - (sum xs + off) in
    omega (arith, sum_by-cons (λ n. n) rest (xs ++ off ∷ []), sum_by_push (λ n. n) xs off)

-- no place of a good board has more than 15 checkers of the player
pub own-few : (b : BoardFields) → own_placed b ≤ 15 → (k : ℕ) → slice_index (own_view b).own k ≤ 15
unfolding own_view
own-few b h k = omega (arith, at-most-sum (own_view b).own k, fifteen (own_off b) (own_on_places b) h)

-- or of the opponent
pub other-few : (b : BoardFields) → other_placed b ≤ 15 → (k : ℕ) → slice_index (own_view b).other k ≤ 15
unfolding own_view
other-few b h k = omega (arith, at-most-sum (own_view b).other k, fifteen-other (other_off b) (other_on_places b) h)

-- nothing is taken of nothing
take-none : (n : ℕ) → take {A = ℕ} n [] ≡ []
take-none zero = refl
take-none (suc n) = refl

-- one more than the next number
suc-more : (n : ℕ) → suc n + 1 ≡ suc (n + 1)
suc-more n = omega arith

-- the counts of some places and of one more
take-sum : (n : ℕ) (xs : List ℕ) → sum (take (n + 1) xs) ≡ sum (take n xs) + slice_index xs n
take-sum zero [] = refl
take-sum zero (x ∷ xs) = omega (arith, sum_by-cons (λ m. m) x [])
take-sum (suc n) [] = ap sum (take-none (suc n + 1))
take-sum (suc n) (x ∷ xs) =
    let here : sum (take (suc n + 1) (x ∷ xs)) ≡ sum (x ∷ take (n + 1) xs) =
    ap (λ m. sum (take m (x ∷ xs))) (suc-more n) in
    omega (arith, here, take-sum n xs, sum_by-cons (λ m. m) x (take (n + 1) xs), sum_by-cons (λ m. m) x (take n xs))

-- some places have no more checkers than all
take-least : (n : ℕ) (xs : List ℕ) → sum (take n xs) ≤ sum xs
take-least zero xs = omega arith
take-least (suc n) [] = omega arith
take-least (suc n) (x ∷ xs) =
    let rest = take-least n xs in
    omega (arith, rest, sum_by-cons (λ m. m) x (take n xs), sum_by-cons (λ m. m) x xs)

-- checkers that have at most 25 steps each have at most 25 times as many as they are
few-steps : (f : ℕ → ℕ) (xs : List ℕ) (n : ℕ) → ((k : ℕ) → k < n → f k ≤ 25 * slice_index xs k)
    → sum (map f (range_with_len 0 n)) ≤ 25 * sum (take n xs)
few-steps f xs zero h = omega arith
few-steps f xs (suc n) h =
    let before = few-steps f xs n (λ k less. h k (omega (arith, less))) in
    let here = h n (omega arith) in
    let next : n + 1 ≡ suc n = omega arith in
    subst (λ m. sum (map f (range_with_len 0 m)) ≤ 25 * sum (take m xs)) next
    (rw (
      map-range_with_len_more f 0 n n (omega arith),
      sum_by_push (λ x. x) (map f (range_with_len 0 n)) (f n),
      take-sum n xs,
    ) (omega (arith, before, here)))

-- a place is 25 at most
at-most-25 : (k : ℕ) → k < 26 → k ≤ 25
at-most-25 k h = omega (arith, h)

-- so is what is left of 25
less-than-25 : (k : ℕ) → 25 - k ≤ 25
less-than-25 k = omega arith

-- how far the player's checkers have to go: fifteen have at most 25 steps each
pub own-pips-least : (b : BoardFields) → own_placed b ≤ 15 → own_pips (own_view b) ≤ 375
unfolding own_pips own_view
own-pips-least b h =
    let xs = (own_view b).own in
    let few = few-steps (own_pips_on (own_view b)) xs 26
    (λ k less. mul-le-mul_right (slice_index xs k) (at-most-25 k less)) in
    omega (arith, few, take-least 26 xs, fifteen (own_off b) (own_on_places b) h)

-- and how far the opponent's have to go
pub other-pips-least : (b : BoardFields) → other_placed b ≤ 15 → other_pips (own_view b) ≤ 375
unfolding other_pips own_view
other-pips-least b h =
    let xs = (own_view b).other in
    let few = few-steps (other_pips_on (own_view b)) xs 25
    (λ k less. mul-le-mul_right (slice_index xs k) (less-than-25 k)) in
    omega (arith, few, take-least 25 xs, fifteen-other (other_off b) (other_on_places b) h)

-- both are numbers of 64 bits
pub own-pips-few : (b : BoardFields) → own_placed b ≤ 15 → own_pips (own_view b) < 2 ^ 64
own-pips-few b h = let few = own-pips-least b h in omega (arith, few)

-- the opponent's too
pub other-pips-few : (b : BoardFields) → other_placed b ≤ 15 → other_pips (own_view b) < 2 ^ 64
other-pips-few b h = let few = other-pips-least b h in omega (arith, few)

-- lists of two are the same if their parts are
pub pair-same : (w x y z : ℤ) → w ≡ y → x ≡ z → w ∷ x ∷ [] ≡ y ∷ z ∷ []
pair-same w x y z e f = cc

-- lists of four are the same if their parts are
pub four-same : (a b c d a' b' c' d' : ℤ) → a ≡ a' → b ≡ b' → c ≡ c' → d ≡ d'
    → a ∷ b ∷ c ∷ d ∷ [] ≡ a' ∷ b' ∷ c' ∷ d' ∷ []
four-same a b c d a' b' c' d' e f g h = cc
