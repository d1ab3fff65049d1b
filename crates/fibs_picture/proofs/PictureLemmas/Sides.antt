-- What a board's fields may be: each place holds checkers of one side only, and few of them.
use Rattle.std.proofs.Common.{◌≡◌, ◌⊎◌, ◌≤◌, ℕ, zero, suc, refl, sym, subst, arith, inl, inr, lit≤}
use Rattle.std.specs.Prelude.{ℤ, pos, negsuc, neg_ℤ, ◌≤ℤ◌}
use Rattle.std.proofs.lemmas.Int.{ints}
use Rattle.fibs_fields.specs.Board.{BoardFields, IsBoard, field_of}
use Rattle.fibs_fields.specs.FieldRanges.{FieldRanges}
use Rattle.fibs_position.specs.DirectionOf.{direction_of, line_place}
use Rattle.fibs_fields.specs.FieldReading.{natural}
use Rattle.fibs_position.specs.OwnView.{checkers_of, stand_on, colour, place_field}
use Rattle.fibs_position.specs.declared.direction.Direction.{Direction}
use Rattle.fibs_position.specs.declared.direction.Direction.TheVariants.{Down, Up}
use Rattle.fibs_picture.proofs.PictureLemmas.Reading.{OneSide}

-- a number of at most fifteen either way, and its opposite: one of them is no count
split : (z : ℤ) → negsuc 14 ≤ℤ z → z ≤ℤ pos 15 → OneSide (natural z) (natural (neg_ℤ z))
split (pos zero) low high = record { either = inl refl; few_own = omega arith; few_other = omega arith }
split (pos (suc n)) low high = record { either = inr refl; few_own = omega (arith, ints); few_other = omega arith }
split (negsuc n) low high = record { either = inl refl; few_own = omega arith; few_other = omega (arith, ints) }

-- the other way round
swapped : (m n : ℕ) → OneSide m n → OneSide n m
swapped m n h = record {
  either = elim h.either [ inl e ↦ inr e | inr e ↦ inl e ];
  few_own = h.few_other;
  few_other = h.few_own;
}

-- the checkers of a colour and of the other one
sides : (c z : ℤ) → (c ≡ negsuc 0) ⊎ (c ≡ pos 1) → negsuc 14 ≤ℤ z → z ≤ℤ pos 15
    → OneSide (checkers_of c z) (checkers_of (neg_ℤ c) z)
sides c z (inl e) low high =
    subst (λ d. OneSide (checkers_of d z) (checkers_of (neg_ℤ d) z)) (sym e) (swapped _ _ (split z low high))
sides c z (inr e) low high =
    subst (λ d. OneSide (checkers_of d z) (checkers_of (neg_ℤ d) z)) (sym e) (split z low high)

-- the number of a place is at most 25, whichever way the player goes
line_place-le : (d : Direction) (place : ℕ) → place ≤ 25 → line_place d place ≤ 25
line_place-le Down place h = h
line_place-le Up place h = omega arith

-- each place of a board
pub one-side : FieldRanges → (b : BoardFields) → IsBoard b → (place : ℕ) → place ≤ 25
    → OneSide (stand_on b (colour b) place) (stand_on b (neg_ℤ (colour b)) place)
one-side ranges b board place h =
    let n = place_field b place in
    let near : line_place (direction_of b) place ≤ 25 = line_place-le (direction_of b) place h in
    let low : 7 ≤ n = omega arith in
    let high : n ≤ 32 = omega (arith, near) in
    let range = (ranges.place n (field_of b n) low high).0 (ranges.held b n board (omega arith) (omega arith)) in
    let side = (ranges.side 42 (colour b) (lit≤ tt) (lit≤ tt)).0 (ranges.held b 42 board (lit≤ tt) (lit≤ tt)) in
    sides (colour b) (field_of b n) side range.0 range.1
