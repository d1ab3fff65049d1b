-- The board after a move is good, and shows the checkers that the steps lead to.
use Rattle.std.proofs.Common.{◌≡◌, ℕ, zero, suc, ◌+◌, ◌-◌, ◌<◌, ◌≤◌, ◌≢◌, ◌⊎◌, inl, inr, Bool, true, false, cond, eqb, List, [], ◌∷◌, ◌++◌, sum, length, get_or, refl, sym, ap, subst, ◌∙◌, arith, lit≤}
use Rattle.std.specs.Prelude.{ℤ, pos, negsuc, neg_ℤ, ◌≤ℤ◌, ◌-ℤ◌, ◌==◌, map, slice_index, if◌then◌else◌}
use Rattle.std.specs.Ordering.{int_eq}
use Rattle.std.specs.List.{range_with_len}
use Rattle.std.proofs.lemmas.Int.{ints}
use Rattle.std.proofs.lemmas.Bool.{cases_eq}
use Rattle.std.proofs.lemmas.Bool.Decides.{nat_tests}
use Rattle.std.proofs.lemmas.List.{get_or_append_left}
use Rattle.std.proofs.lemmas.List.FromFn.{get_or-map-range_with_len, length-map-range_with_len}
use Rattle.fibs_fields.specs.Board.{BoardFields, IsBoard, field_of, can_have, field_values}
use Rattle.fibs_fields.specs.FieldRanges.{FieldRanges}
use Rattle.fibs_rules.specs.Hop.{Hop}
use Rattle.fibs_rules.specs.Checkers.{Checkers, shifted, hit}
use Rattle.fibs_rules.specs.LaxPlays.{LaxRun}
use Rattle.fibs_position.specs.declared.direction.Direction.TheVariants.{Down, Up}
use Rattle.fibs_position.specs.DirectionOf.{direction_of, line_place}
use Rattle.fibs_position.specs.OwnView.{colour, place_field, checkers_of, stand_on, on_places, own_on_places, other_on_places, own_placed, other_placed, own_off, other_off, own_view}
use Rattle.fibs_fields.specs.FieldReading.{natural}
use Rattle.fibs_position.specs.GoodBoard.{IsGood}
use Rattle.fibs_position.specs.BoardEffect.{value_of, place_says, placed, after_move}
use Rattle.fibs_rules.proofs.RuleLemmas.CheckerCounts.{count_le, shifted_le, hit_le, hit_place, range_le, places_le}
use Rattle.fibs_position.proofs.BoardLemmas.SetFields.{may_turn, may_stand, may_off, places_are}
use Rattle.fibs_position.proofs.BoardLemmas.CountLines.{line_sum}
use Rattle.fibs_position.proofs.BoardLemmas.ChangedFields.{AllMay, board_after, player_after, may_append, may_range, field_after, changed, changed_append, unchanged_below}
use Rattle.fibs_position.proofs.BoardLemmas.ViewAfter.{map_range_same, field_low, field_high, same_place_field}

-- the player's colour is one of two
pub two_sides : FieldRanges → (b : BoardFields) → IsBoard b → (colour b ≡ negsuc 0) ⊎ (colour b ≡ pos 1)
two_sides ranges b board =
    (ranges.side 42 (colour b) (lit≤ tt) (lit≤ tt)).0 (ranges.held b 42 board (lit≤ tt) (lit≤ tt))

-- whose turn it is after a move is a number of the turn
turn_may : FieldRanges → (b : BoardFields) (t : Bool) → IsBoard b
    → can_have 33 (cond t (pos 0) (neg_ℤ (colour b))) ≡ true
turn_may ranges b true board = may_turn ranges (pos 0) (omega (arith, ints)) (omega (arith, ints))
turn_may ranges b false board =
    let two = two_sides ranges b board in may_turn ranges (neg_ℤ (colour b)) (omega (arith, ints)) (omega (arith, ints))

-- the value of a place is one that it may have, and shows no checker more
value_low : (t : Bool) (own other : ℕ) → own ≤ 15 → other ≤ 15
    → negsuc 14 ≤ℤ cond t (pos own -ℤ pos other) (pos other -ℤ pos own)
value_low true own other a b = omega (arith, ints)
value_low false own other a b = omega (arith, ints)

-- and at most the own checkers
value_high : (t : Bool) (own other : ℕ) → own ≤ 15 → other ≤ 15
    → cond t (pos own -ℤ pos other) (pos other -ℤ pos own) ≤ℤ pos 15
value_high true own other a b = omega (arith, ints)
value_high false own other a b = omega (arith, ints)

-- a number is as a natural number no larger
natural_le : (z : ℤ) (n : ℕ) → z ≤ℤ pos n → natural z ≤ n
natural_le (pos k) n h = omega (arith, ints)
natural_le (negsuc k) n h = omega arith

-- a place then shows no own checker more
own_shown : (side : ℤ) (own other : ℕ) → (side ≡ negsuc 0) ⊎ (side ≡ pos 1)
    → checkers_of side (value_of side own other) ≤ own
own_shown side own other (inl is) = rw is (natural_le (neg_ℤ (pos other -ℤ pos own)) own (omega (arith, ints)))
own_shown side own other (inr is) = rw is (natural_le (pos own -ℤ pos other) own (omega (arith, ints)))

-- nor one of the opponent's
other_shown : (side : ℤ) (own other : ℕ) → (side ≡ negsuc 0) ⊎ (side ≡ pos 1)
    → checkers_of (neg_ℤ side) (value_of side own other) ≤ other
other_shown side own other (inl is) = rw is (natural_le (pos other -ℤ pos own) other (omega (arith, ints)))
other_shown side own other (inr is) = rw is (natural_le (neg_ℤ (pos own -ℤ pos other)) other (omega (arith, ints)))

-- no step adds a checker
pub run_own : (p q : Checkers) (steps : List Hop) → LaxRun p steps q → sum q.own ≤ sum p.own
run_own p q [] run = let e = ap (λ (r : Checkers). sum r.own) run in omega arith
run_own p q (step ∷ steps) (r, one, run) =
    let later = run_own r q steps run in
    let here = shifted_le p.own step.source step.target one.occupied in
    let is : sum r.own ≡ sum (shifted p.own step.source step.target) = ap (λ (k : Checkers). sum k.own) one.leads in
    omega arith

-- nor one of the opponent's
pub run_other : (p q : Checkers) (steps : List Hop) → LaxRun p steps q → sum q.other ≤ sum p.other
run_other p q [] run = let e = ap (λ (r : Checkers). sum r.other) run in omega arith
run_other p q (step ∷ steps) (r, one, run) =
    let later = run_other r q steps run in
    let here = hit_le p.other step.target in
    let is : sum r.other ≡ sum (hit p.other step.target) = ap (λ (k : Checkers). sum k.other) one.leads in
    omega arith

-- nor one of the opponent's on a place
pub run_place : (p q : Checkers) (steps : List Hop) (i : ℕ) → 0 < i → LaxRun p steps q
    → slice_index q.other i ≤ slice_index p.other i
run_place p q [] i some run = let e = ap (λ (r : Checkers). slice_index r.other i) run in omega arith
run_place p q (step ∷ steps) i some (r, one, run) =
    let later = run_place r q steps i some run in
    let here = hit_place p.other step.target i some in
    let is : slice_index r.other i ≡ slice_index (hit p.other step.target) i =
    ap (λ (k : Checkers). slice_index k.other i) one.leads in
    omega arith

-- the view that a move begins with
view_own : (b : BoardFields) → IsGood b → sum (own_view b).own ≡ 15
unfolding own_view
view_own b good = let few = good.own in omega (arith, line_sum _ (own_on_places b) (own_off b) (15 - own_placed b) refl)

-- the opponent's fifteen
view_other : (b : BoardFields) → IsGood b → sum (own_view b).other ≡ 15
unfolding own_view
view_other b good =
    let few = good.other in omega (arith, line_sum _ (other_on_places b) (15 - other_placed b) (other_off b) refl)

-- a place of the line of counts
in_line : (low : ℕ) (xs ys : List ℕ) (i : ℕ) → 1 ≤ i → i - 1 < length xs
    → slice_index (low ∷ (xs ++ ys)) i ≡ get_or xs (i - 1) 0
in_line low xs ys zero from within = absurd (omega arith)
in_line low xs ys (suc i) from within =
    let e : suc i - 1 ≡ i = omega arith in
    let f : i < length xs = omega arith in
    rw e (get_or_append_left xs ys 0 i f)

-- the opponent's checkers on a place
view_place : (b : BoardFields) (place : ℕ) → 1 ≤ place → place ≤ 24
    → slice_index (own_view b).other place ≡ stand_on b (neg_ℤ (colour b)) place
unfolding own_view
view_place b place low high =
    let stand = stand_on b (neg_ℤ (colour b)) in
    let long : length (map stand (range_with_len 1 24)) ≡ 24 = length-map-range_with_len stand 1 24 in
    let shown : place - 1 < length (map stand (range_with_len 1 24)) = omega arith in
    let all : other_on_places b ≡ map stand (range_with_len 1 24) = ap (map stand) places_are in
    ap (λ l. slice_index ((15 - other_placed b) ∷ (l ++ other_off b ∷ [])) place) all
    ∙ in_line (15 - other_placed b) (map stand (range_with_len 1 24)) (other_off b ∷ []) place low shown
    ∙ get_or-map-range_with_len stand 1 24 (place - 1) place 0 (omega arith) (omega arith)

-- the places are changed one by one
place_apart : (b : BoardFields) (i j : ℕ) → i ≤ 24 → j ≤ 24 → i ≢ j → place_field b i - 4 ≢ place_field b j - 4
place_apart b i j a c apart =
    elim (direction_of b) as (λ d. (7 + line_place d i) - 4 ≢ (7 + line_place d j) - 4)
    [ Down ↦ omega arith | Up ↦ omega arith ]

-- a change of another field
not_here : (t : Bool) (y z : ℤ) → t ≡ false → cond t y z ≡ z
not_here t y z e = rw e refl

-- a change of the field
is_here : (t : Bool) (y z : ℤ) → t ≡ true → cond t y z ≡ y
is_here t y z e = rw e refl

-- changes of later places leave a place
untouched : (b : BoardFields) (q : Checkers) (first long place : ℕ) (z : ℤ) → place < first → first + long ≤ 25
    → changed (map (place_says b q) (range_with_len first long)) (place_field b place) z ≡ z
untouched b q first zero place z below top = refl
untouched b q first (suc long) place z below top =
    let apart : eqb (place_field b first - 4) (place_field b place - 4) ≡ false = let a =
    place_apart b first place (omega arith) (omega arith) (omega arith) in grind (arith, nat_tests) in
    let rest = map (place_says b q) (range_with_len (first + 1) long) in
    ap (changed rest (place_field b place)) (not_here _ (place_says b q first).1 z apart)
    ∙ untouched b q (first + 1) long place z (omega arith) (omega arith)

-- a change of the place gives its value
found : (b : BoardFields) (q : Checkers) (first long place : ℕ) (z : ℤ) → first ≤ place → place < first + long
    → first + long ≤ 25
    → changed (map (place_says b q) (range_with_len first long)) (place_field b place) z ≡ value_of (colour b)
    (slice_index q.own place) (slice_index q.other place)
found b q first zero place z low high top = absurd (omega arith)
found b q first (suc long) place z low high top = elim (cases_eq place first) [
  | inl here ↦
      let same : eqb (place_field b first - 4) (place_field b place - 4) ≡ true = let e = ap (place_field b) here in
      grind (arith, nat_tests) in
      ap (changed (map (place_says b q) (range_with_len (first + 1) long)) (place_field b place))
      (is_here _ (place_says b q first).1 z same)
      ∙ untouched b q (first + 1) long place (place_says b q first).1 (omega arith) (omega arith)
      ∙ ap (λ k. value_of (colour b) (slice_index q.own k) (slice_index q.other k)) (sym here)
  | inr apart ↦
      let other : eqb (place_field b first - 4) (place_field b place - 4) ≡ false = let a =
      place_apart b first place (omega arith) (omega arith) (λ e. apart (sym e)) in grind (arith, nat_tests) in
      ap (changed (map (place_says b q) (range_with_len (first + 1) long)) (place_field b place))
      (not_here _ (place_says b q first).1 z other)
      ∙ found b q (first + 1) long place z (omega arith) (omega arith) (omega arith)
]

-- the changes after the places
abbrev pub last_says : BoardFields → Checkers → List (ℕ × ℤ)
last_says b q =
    (46, pos (slice_index q.own 0)) ∷ (34, pos 0) ∷ (35, pos 0)
    ∷ (33, if slice_index q.own 0 == 15 then pos 0 else neg_ℤ (colour b)) ∷ []

-- the number of a field after a move
moved_field : FieldRanges → (b : BoardFields) (q : Checkers) (n : ℕ) → IsBoard b → n ≤ 53
    → field_of (after_move b q) n ≡ changed (last_says b q) n (changed (placed b q) n (field_of b n))
moved_field ranges b q n board high =
    field_after ranges (placed b q ++ last_says b q) b n board high
    ∙ changed_append (placed b q) (last_says b q) n (field_of b n)

-- the changes of the places are those of 1 to 24
placed_is : (b : BoardFields) (q : Checkers) → placed b q ≡ map (place_says b q) (range_with_len 1 24)
placed_is b q = ap (map (place_says b q)) places_are

-- a field that is not one of the places stays as it is
beside : (b : BoardFields) (q : Checkers) (first long n : ℕ) (z : ℤ) → 1 ≤ first → first + long ≤ 25 → 32 ≤ n
    → changed (map (place_says b q) (range_with_len first long)) n z ≡ z
beside b q first zero n z low top above = refl
beside b q first (suc long) n z low top above =
    let high = field_high b first low (omega arith) in
    let some = field_low b first low (omega arith) in
    let apart : eqb (place_field b first - 4) (n - 4) ≡ false = grind (arith, nat_tests) in
    ap (changed (map (place_says b q) (range_with_len (first + 1) long)) n)
    (not_here _ (place_says b q first).1 z apart)
    ∙ beside b q (first + 1) long n z (omega arith) (omega arith) above

-- a field after the places, after a move
pub moved_beside : FieldRanges → (b : BoardFields) (q : Checkers) (n : ℕ) → IsBoard b → 32 ≤ n → n ≤ 53
    → field_of (after_move b q) n ≡ changed (last_says b q) n (field_of b n)
moved_beside ranges b q n board low high =
    moved_field ranges b q n board high
    ∙ ap (changed (last_says b q) n)
    (ap (λ l. changed l n (field_of b n)) (placed_is b q)
    ∙ beside b q 1 24 n (field_of b n) (omega arith) (omega arith) low)

-- a place after a move
pub moved_place : FieldRanges → (b : BoardFields) (q : Checkers) (place : ℕ) → IsBoard b → 1 ≤ place → place ≤ 24
    → field_of (after_move b q) (place_field b place) ≡ value_of (colour b) (slice_index q.own place)
    (slice_index q.other place)
moved_place ranges b q place board low high =
    let n = place_field b place in
    let from = field_low b place low high in
    let to = field_high b place low high in
    moved_field ranges b q n board (omega arith)
    ∙ unchanged_below (last_says b q) 33 46 n (changed (placed b q) n (field_of b n)) refl (omega arith) (omega arith)
    ∙ ap (λ l. changed l n (field_of b n)) (placed_is b q)
    ∙ found b q 1 24 place (field_of b n) low (omega arith) (omega arith)

-- the places that a board then shows
shown_places : FieldRanges → (b : BoardFields) (q : Checkers) (side : ℤ) → IsBoard b
    → on_places (after_move b q) side ≡ map
    (λ place. checkers_of side (value_of (colour b) (slice_index q.own place) (slice_index q.other place)))
    (range_with_len 1 24)
shown_places ranges b q side board =
    let a = after_move b q in
    let way : field_of a 43 ≡ field_of b 43 = moved_beside ranges b q 43 board (omega arith) (omega arith) in
    ap (map (stand_on a side)) places_are
    ∙ map_range_same (stand_on a side)
    (λ place. checkers_of side (value_of (colour b) (slice_index q.own place) (slice_index q.other place))) 1 24
    (λ k low high.
    ap (λ n. checkers_of side (field_of a n)) (same_place_field a b k way)
    ∙ ap (checkers_of side) (moved_place ranges b q k board low (omega arith)))

-- a move leaves a good board
may_last : FieldRanges → (b : BoardFields) (q : Checkers) → IsBoard b → slice_index q.own 0 ≤ 15
    → AllMay (last_says b q)
unfolding field_values
may_last ranges b q board few = (
  may_off ranges (pos (slice_index q.own 0)) (omega (arith, ints)) (omega (arith, ints)),
  (refl, (refl, (turn_may ranges b (slice_index q.own 0 == 15) board, tt))),
)

-- a move leaves a good board
pub good_moved : FieldRanges → (b : BoardFields) (q : Checkers) (steps : List Hop) → IsGood b
    → LaxRun (own_view b) steps q → IsGood (after_move b q)
good_moved ranges b q steps good run =
    let board = good.board in
    let a = after_move b q in
    let own_few : sum q.own ≤ 15 = omega (arith, run_own (own_view b) q steps run, view_own b good) in
    let other_few : sum q.other ≤ 15 = omega (arith, run_other (own_view b) q steps run, view_other b good) in
    let side : colour a ≡ colour b = moved_beside ranges b q 42 board (omega arith) (omega arith) in
    let off : field_of a 46 ≡ pos (slice_index q.own 0) =
    moved_beside ranges b q 46 board (omega arith) (omega arith) in
    let off_other : field_of a 47 ≡ field_of b 47 = moved_beside ranges b q 47 board (omega arith) (omega arith) in
    let two = two_sides ranges b board in
    let own : own_placed a ≡ sum
    (map
    (λ place. checkers_of (colour b) (value_of (colour b) (slice_index q.own place) (slice_index q.other place)))
    (range_with_len 1 24)) + slice_index q.own 0 =
    ap (λ s. sum (on_places a s) + own_off a) side
    ∙ ap (λ l. sum l + own_off a) (shown_places ranges b q (colour b) board)
    ∙ ap
    (λ z. sum
    (map
    (λ place. checkers_of (colour b) (value_of (colour b) (slice_index q.own place) (slice_index q.other place)))
    (range_with_len 1 24)) + natural z) off in
    let own_most =
    range_le
    (λ place. checkers_of (colour b) (value_of (colour b) (slice_index q.own place) (slice_index q.other place)))
    (slice_index q.own) 1 24
    (λ k low high. own_shown (colour b) (slice_index q.own k) (slice_index q.other k) two) in
    let own_all = places_le q.own 24 in
    let other : other_placed a ≡ sum
    (map
    (λ place. checkers_of (neg_ℤ (colour b))
    (value_of (colour b) (slice_index q.own place) (slice_index q.other place))) (range_with_len 1 24)) + other_off
    b =
    ap (λ s. sum (on_places a (neg_ℤ s)) + other_off a) side
    ∙ ap (λ l. sum l + other_off a) (shown_places ranges b q (neg_ℤ (colour b)) board)
    ∙ ap
    (λ z. sum
    (map
    (λ place. checkers_of (neg_ℤ (colour b))
    (value_of (colour b) (slice_index q.own place) (slice_index q.other place))) (range_with_len 1 24)) + natural z)
    off_other in
    let other_most =
    range_le
    (λ place. checkers_of (neg_ℤ (colour b))
    (value_of (colour b) (slice_index q.own place) (slice_index q.other place))) (stand_on b (neg_ℤ (colour b))) 1
    24
    (λ k low high.
    let shown = other_shown (colour b) (slice_index q.own k) (slice_index q.other k) two in
    let fewer = run_place (own_view b) q steps k (omega arith) run in
    let is = view_place b k low (omega arith) in omega arith) in
    let before : sum (other_on_places b) ≡ sum (map (stand_on b (neg_ℤ (colour b))) (range_with_len 1 24)) =
    ap (λ l. sum (map (stand_on b (neg_ℤ (colour b))) l)) places_are in
    let few_before = good.other in
    record {
      board = board_after ranges (placed b q ++ last_says b q) b board (may_append (placed b q) (last_says b q)
          (subst AllMay (sym (placed_is b q)) (may_range (place_says b q) 1 24 (λ k low high.
          let own_k = count_le q.own k in
          let other_k = count_le q.other k in
          may_stand ranges (place_field b k) (place_says b q k).1 (omega (arith, field_low b k low (omega arith)))
          (omega (arith, field_high b k low (omega arith)))
          (value_low (int_eq (colour b) (pos 1)) (slice_index q.own k) (slice_index q.other k) (omega arith)
          (omega arith))
          (value_high (int_eq (colour b) (pos 1)) (slice_index q.own k) (slice_index q.other k) (omega arith)
          (omega arith)))))
          (may_last ranges b q board (omega (arith, count_le q.own 0))));
      plays = player_after (placed b q ++ last_says b q) b ∙ good.plays;
      own = omega (arith, own, own_most);
      other = omega (arith, other, other_most, before);
    }
