-- How a list of places, and a count of pips, go on by one place.
use Rattle.std.proofs.Common.{◌≡◌, ◌+◌, ◌*◌, ◌≤◌, ◌++◌, ℕ, zero, suc, Bool, List, [], ◌∷◌, map, sum, Result, Ok, Err, refl, ◌∙◌, ap, arith, append_assoc}
use Rattle.std.specs.Prelude.{OnOk, is_ok, if◌then◌else◌}
use Rattle.std.specs.List.{filter, range_with_len}
use Rattle.std.proofs.Math.Nat.{mul-le-mul_left}
use Rattle.std.proofs.lemmas.List.Elements.{filter-append}
use Rattle.std.proofs.lemmas.List.FromFn.{map-range_with_len_more}
use Rattle.std.proofs.lemmas.List.Sums.{sum_by_push}
use Rattle.fibs_advice.specs.Hits.{kept_if}

-- some numbers and the next one
range-more : (a n j : ℕ) → a + n ≡ j → range_with_len a (n + 1) ≡ range_with_len a n ++ j ∷ []
range-more a zero j e = let same : a ≡ j = omega (arith, e) in rw same refl
range-more a (suc n) j e =
    let next : suc n + 1 ≡ suc (n + 1) = omega arith in
    rw next (ap (λ xs. a ∷ xs) (range-more (a + 1) n j (omega (arith, e))))

-- a list of one place that is kept, or not
kept-alone : (p : ℕ → Bool) (j : ℕ) → filter p (j ∷ []) ≡ kept_if (p j) j
kept-alone p j = refl

-- those that are kept, and the next one
pub kept-more : (p : ℕ → Bool) (a n j : ℕ) → a + n ≡ j
    → filter p (range_with_len a (n + 1)) ≡ filter p (range_with_len a n) ++ kept_if (p j) j
kept-more p a n j e =
    ap (filter p) (range-more a n j e) ∙ filter-append p (range_with_len a n) (j ∷ [])
    ∙ ap (λ t. filter p (range_with_len a n) ++ t) (kept-alone p j)

-- a place that is at most 25 away, with at most 15 checkers, adds at most 375 pips
pub pips-more : (f : ℕ → ℕ) (pips place away count : ℕ) → away ≤ 25 → count ≤ 15 → f place ≡ away * count
    → (pips ≡ sum (map f (range_with_len 0 place))) × (pips ≤ 375 * place)
    → (pips + away * count ≡ sum (map f (range_with_len 0 (place + 1)))) × (pips + away * count ≤ 375 * (place + 1))
pips-more f pips place away count near few here before = (
  rw (
    map-range_with_len_more f 0 place place (omega arith),
    sum_by_push (λ x. x) (map f (range_with_len 0 place))
        (f place),
  )
      (omega (arith, before.0, here)),
  let most : away * count ≤ away * 15 = mul-le-mul_left away few in omega (arith, before.1),
)

-- what is appended in three parts is appended whole
pub appended-three : {E : Type 0} (r : Result (Unit {0}) E) (old first second new a b c : List ℕ) → first ≡ old ++ a
    → second ≡ first ++ b → new ≡ (if is_ok r then second ++ c else second) → OnOk r (new ≡ old ++ (a ++ (b ++ c)))
appended-three (Err e) old first second new a b c p q s = tt
appended-three (Ok u) old first second new a b c p q s =
    s ∙ ap (λ (m : List ℕ). m ++ c) (q ∙ ap (λ (m : List ℕ). m ++ b) p)
    ∙ append_assoc (old ++ a) b c ∙ append_assoc old a (b ++ c)
