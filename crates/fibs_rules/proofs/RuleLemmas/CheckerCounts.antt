-- Counts of checkers: no step adds one.
use Rattle.std.proofs.Common.{◌≡◌, ℕ, zero, suc, ◌+◌, ◌-◌, ◌<◌, ◌≤◌, ◌≢◌, Bool, true, false, cond, List, [], ◌∷◌, length, drop, sum, inl, inr, refl, ap, ◌∙◌, arith, drop-cons, add-one, get_or, eq-eqb, length-set, get_or-set_same, get_or-set_other}
use Rattle.std.specs.Prelude.{◌&&◌, ◌==◌, nat_lt, slice_index, slice_set, map}
use Rattle.std.specs.List.{range_with_len}
use Rattle.std.proofs.lemmas.Bool.{cases_lt, and_parts, eqb-true, ltb-true, ne_eqb, cond-true, cond-false, cond_both}
use Rattle.std.proofs.lemmas.Bool.Decides.{nat_tests}
use Rattle.std.proofs.lemmas.List.{set_past, drop_all}
use Rattle.std.proofs.lemmas.List.Sums.{sum_by-set, sum_by-cons, get_or-le-sum_by}
use Rattle.std.proofs.Math.ListN.{get_or-eq_default}
use Rattle.fibs_rules.specs.Checkers.{shifted, hit}

-- a count is at most the sum of all
pub count_le : (xs : List ℕ) (i : ℕ) → slice_index xs i ≤ sum xs
count_le xs i = elim (cases_lt i (length xs)) [
  | inl within ↦ get_or-le-sum_by (λ x. x) xs i 0 within
  | inr past ↦ let none = get_or-eq_default xs 0 past in omega arith
]

-- a count that is not 0 is in the list
pub stands : (xs : List ℕ) (i : ℕ) → 0 < slice_index xs i → i < length xs
stands xs i some =
    elim (cases_lt i (length xs))
    [ inl within ↦ within | inr past ↦ let none = get_or-eq_default xs 0 past in absurd (omega arith) ]

-- one more on a place
more_le : (xs : List ℕ) (i : ℕ) → sum (slice_set xs i (slice_index xs i + 1)) ≤ sum xs + 1
more_le xs i = elim (cases_lt i (length xs)) [
  | inl within ↦ let s = sum_by-set (λ x. x) xs i (slice_index xs i + 1) 0 within in omega arith
  | inr past ↦ let same = ap sum (set_past xs i (slice_index xs i + 1) past) in omega arith
]

-- one goes from a place to another
pub shifted_le : (xs : List ℕ) (from to : ℕ) → 0 < slice_index xs from → sum (shifted xs from to) ≤ sum xs
shifted_le xs from to some =
    let less = sum_by-set (λ x. x) xs from (slice_index xs from - 1) 0 (stands xs from some) in
    let more = more_le (slice_set xs from (slice_index xs from - 1)) to in
    omega arith

-- what a hit leaves
hit_sum : (t : Bool) (other : List ℕ) (to : ℕ) → t ≡ (nat_lt 0 to && (slice_index other to == 1))
    → (t ≡ true → 0 < slice_index other to) → sum (cond t (shifted other to 0) other) ≤ sum other
hit_sum true other to is some = shifted_le other to 0 (some refl)
hit_sum false other to is some = omega arith

-- a shift leaves the length
pub shifted_long : (xs : List ℕ) (f t : ℕ) → length (shifted xs f t) ≡ length xs
shifted_long xs f t = omega (arith, length-set {A = ℕ})

-- what a shift makes of one count
abbrev pub shift_at : ℕ → ℕ → ℕ → ℕ → ℕ
shift_at x k f t = cond (k == f) (x - 1) (cond (k == t) (x + 1) x)

-- at the target there is one more
pub shift_to : (x k f t : ℕ) → k ≢ f → k ≡ t → shift_at x k f t ≡ x + 1
shift_to x k f t n e = cond-false (k == f) _ _ (ne_eqb k f n) ∙ cond-true (k == t) _ _ (eq-eqb k t e)

-- elsewhere there are as many
pub shift_else : (x k f t : ℕ) → k ≢ f → k ≢ t → shift_at x k f t ≡ x
shift_else x k f t n m = cond-false (k == f) _ _ (ne_eqb k f n) ∙ cond-false (k == t) _ _ (ne_eqb k t m)

-- a count after a shift
pub shifted_at : (xs : List ℕ) (f t k : ℕ) → f ≢ t → f < length xs → t < length xs
    → get_or (shifted xs f t) k 0 ≡ shift_at (get_or xs k 0) k f t
shifted_at xs f t k apart l r = grind (arith, nat_tests, get_or-set_same, get_or-set_other, length-set)

-- no hit adds one, on the bar and elsewhere together, nor on any place
pub hit_le : (other : List ℕ) (to : ℕ) → sum (hit other to) ≤ sum other
hit_le other to = hit_sum (nat_lt 0 to && (slice_index other to == 1)) other to refl
    (λ e. let one = eqb-true (slice_index other to) 1 (and_parts (nat_lt 0 to) (slice_index other to == 1) e).1 in
    omega arith)

-- a hit adds none on a place
pub hit_place : (other : List ℕ) (to i : ℕ) → 0 < i → slice_index (hit other to) i ≤ slice_index other i
hit_place other to i some =
    cond_both (nat_lt 0 to && (slice_index other to == 1)) (shifted other to 0) other
    (λ ys. slice_index ys i ≤ slice_index other i)
    (λ e.
    let (low, one) = and_parts (nat_lt 0 to) (slice_index other to == 1) e in
    let is = eqb-true (slice_index other to) 1 one in let within = stands other to (omega (arith, is)) in
    let at = shifted_at other to 0 i (omega (arith, ltb-true 0 to low)) within (omega (arith, within)) in
    let less : shift_at (slice_index other i) i to 0 ≤ slice_index other i = grind (arith, nat_tests) in
    omega (arith, at, less))
    (λ e. omega arith)

-- sums over a range
pub range_le : (f g : ℕ → ℕ) (first long : ℕ) → ((k : ℕ) → first ≤ k → k < first + long → f k ≤ g k)
    → sum (map f (range_with_len first long)) ≤ sum (map g (range_with_len first long))
range_le f g first zero h = omega arith
range_le f g first (suc long) h =
    let here = h first (omega arith) (omega arith) in
    let later = range_le f g (first + 1) long (λ k low high. h k (omega arith) (omega arith)) in
    omega (
      arith,
      sum_by-cons (λ x. x) (f first) (map f (range_with_len (first + 1) long)),
      sum_by-cons (λ x. x) (g first) (map g (range_with_len (first + 1) long)),
    )

-- the counts of a range are among all from its first on
among : (xs : List ℕ) (first long : ℕ) → sum (map (slice_index xs) (range_with_len first long)) ≤ sum (drop first xs)
among xs first zero = omega arith
among xs first (suc long) =
    let later = among xs (first + 1) long in
    let head = sum_by-cons (λ x. x) (slice_index xs first) (map (slice_index xs) (range_with_len (first + 1) long)) in
    elim (cases_lt first (length xs)) [
      | inl within ↦
          let parts : drop first xs ≡ slice_index xs first ∷ drop (first + 1) xs = rw (add-one, drop-cons xs first 0) in
          let all = ap sum parts in
          let first_of = sum_by-cons (λ x. x) (slice_index xs first) (drop (first + 1) xs) in
          omega arith
      | inr past ↦
          let none = get_or-eq_default xs 0 past in
          let rest = ap sum (drop_all (first + 1) xs (omega arith)) in
          omega arith
    ]

-- places 1 to n, and place 0
pub places_le : (xs : List ℕ) (long : ℕ)
    → sum (map (slice_index xs) (range_with_len 1 long)) + slice_index xs 0 ≤ sum xs
places_le [] long = let h = among [] 1 long in omega arith
places_le (x ∷ xs) long = let h = among (x ∷ xs) 1 long in omega (arith, sum_by-cons (λ x. x) x xs)
