-- A change of the turn, the dice or the cube leaves the checkers of a board, and a good board good.
use Rattle.std.proofs.Common.{◌≡◌, ℕ, zero, suc, ◌+◌, ◌<◌, ◌≤◌, true, cond, List, sum, refl, sym, ap, ◌∙◌, arith}
use Rattle.std.specs.Prelude.{ℤ, negsuc, neg_ℤ, map}
use Rattle.std.specs.Ordering.{int_eq}
use Rattle.std.specs.List.{range_with_len}
use Rattle.fibs_fields.specs.Board.{BoardFields, field_of}
use Rattle.fibs_fields.specs.FieldRanges.{FieldRanges}
use Rattle.fibs_position.specs.declared.direction.Direction.TheVariants.{Down, Up}
use Rattle.fibs_position.specs.DirectionOf.{direction_of, line_place}
use Rattle.fibs_position.specs.OwnView.{colour, place_field, checkers_of, stand_on, on_places, own_placed, other_placed, own_off, other_off}
use Rattle.fibs_fields.specs.FieldReading.{natural}
use Rattle.fibs_position.specs.GoodBoard.{IsGood}
use Rattle.fibs_position.specs.BoardEffect.{set_fields}
use Rattle.fibs_position.proofs.BoardLemmas.SetFields.{places_are}
use Rattle.fibs_position.proofs.BoardLemmas.ChangedFields.{AllMay, board_after, player_after, field_after, between, unchanged_below, unchanged_above}

-- functions that agree on a range give one list
pub map_range_same : (f g : ℕ → ℕ) (first long : ℕ) → ((k : ℕ) → first ≤ k → k < first + long → f k ≡ g k)
    → map f (range_with_len first long) ≡ map g (range_with_len first long)
map_range_same f g first zero h = refl
map_range_same f g first (suc long) h =
    let here = h first (omega arith) (omega arith) in
    let later = map_range_same f g (first + 1) long (λ k low high. h k (omega arith) (omega arith)) in
    cc

-- the fields that the view rests on are 8 to 31, 42, 43, 46 and 47
pub field_low : (b : BoardFields) (place : ℕ) → 1 ≤ place → place ≤ 24 → 8 ≤ place_field b place
field_low b place low high =
    elim (direction_of b) as (λ d. 8 ≤ 7 + line_place d place) [ Down ↦ omega arith | Up ↦ omega arith ]

-- and at most 31
pub field_high : (b : BoardFields) (place : ℕ) → 1 ≤ place → place ≤ 24 → place_field b place ≤ 31
field_high b place low high =
    elim (direction_of b) as (λ d. 7 + line_place d place ≤ 31) [ Down ↦ omega arith | Up ↦ omega arith ]

-- boards of one direction have the same field for a place
pub same_place_field : (a b : BoardFields) (place : ℕ) → field_of a 43 ≡ field_of b 43
    → place_field a place ≡ place_field b place
same_place_field a b place way = ap (λ z. 7 + line_place (cond (int_eq z (negsuc 0)) Down Up) place) way

-- boards that agree on the places show the same checkers
same_places : (a b : BoardFields) (side : ℤ) → field_of a 43 ≡ field_of b 43
    → ((n : ℕ) → 8 ≤ n → n ≤ 31 → field_of a n ≡ field_of b n) → on_places a side ≡ on_places b side
same_places a b side way same =
    let each = map_range_same (stand_on a side) (stand_on b side) 1 24 (λ k low high.
    ap (λ n. checkers_of side (field_of a n)) (same_place_field a b k way)
    ∙ ap (checkers_of side)
    (same (place_field b k) (field_low b k low (omega arith)) (field_high b k low (omega arith)))) in
    ap (map (stand_on a side)) places_are ∙ each ∙ ap (map (stand_on b side)) (sym places_are)

-- changes of the turn, the dice and the cube leave the checkers
pub good_after : FieldRanges → (b : BoardFields) (changes : List (ℕ × ℤ)) → IsGood b → between 33 41 changes ≡ true
    → AllMay changes → IsGood (set_fields b changes)
good_after ranges b changes good turns may =
    let a = set_fields b changes in
    let below = λ (n : ℕ) (low : 8 ≤ n) (high : n ≤ 31). field_after ranges changes b n good.board (omega arith)
    ∙ unchanged_below changes 33 41 n (field_of b n) turns (omega arith) (omega arith) in
    let above = λ (n : ℕ) (low : 42 ≤ n) (high : n ≤ 53). field_after ranges changes b n good.board high
    ∙ unchanged_above changes 33 41 n (field_of b n) turns (omega arith) (omega arith) in
    let side : colour a ≡ colour b = above 42 (omega arith) (omega arith) in
    let way = above 43 (omega arith) (omega arith) in
    let own : own_placed a ≡ own_placed b =
    ap (λ s. sum (on_places a s) + own_off a) side ∙ ap (λ l. sum l + own_off a) (same_places a b (colour b) way below)
    ∙ ap (λ z. sum (on_places b (colour b)) + natural z) (above 46 (omega arith) (omega arith)) in
    let other : other_placed a ≡ other_placed b =
    ap (λ s. sum (on_places a (neg_ℤ s)) + other_off a) side
    ∙ ap (λ l. sum l + other_off a) (same_places a b (neg_ℤ (colour b)) way below)
    ∙ ap (λ z. sum (on_places b (neg_ℤ (colour b))) + natural z) (above 47 (omega arith) (omega arith)) in
    let few = good.own in
    let few_other = good.other in
    record {
      board = board_after ranges changes b good.board may;
      plays = player_after changes b ∙ good.plays;
      own =
          omega (arith, own);
      other = omega (arith, other);
    }
