-- How a count of pips goes on by one place.
use Rattle.std.proofs.Common.{◌≡◌, ◌≤◌, ◌+◌, ◌*◌, ℕ, map, sum, arith}
use Rattle.std.specs.List.{range_with_len}
use Rattle.std.proofs.lemmas.List.FromFn.{map-range_with_len_more}
use Rattle.std.proofs.lemmas.List.Sums.{sum_by_push}
use Rattle.std.proofs.Math.Nat.{mul-le-mul_left}

-- a place that is at most 25 away, with at most 15 checkers, adds at most 375
pub pips-more : (f : ℕ → ℕ) (pips place away count : ℕ) → away ≤ 25 → count ≤ 15 → f place ≡ away * count
    → (pips ≡ sum (map f (range_with_len 0 place))) × (pips ≤ 375 * place)
    → (pips + away * count ≡ sum (map f (range_with_len 0 (place + 1)))) × (pips + away * count ≤ 375 * (place + 1))
pips-more f pips place away count near few here before = (
  rw (
    map-range_with_len_more f 0 place place (omega arith),
    sum_by_push (λ x. x) (map f (range_with_len 0 place))
        (f place),
  )
      (omega (arith, before.0, here)),
  let most : away * count ≤ away * 15 = mul-le-mul_left away few in omega (arith, before.1),
)
