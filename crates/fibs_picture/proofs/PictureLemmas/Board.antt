-- The rows of a board determine its checkers, and the way of its numbers.
use Rattle.std.proofs.Common.{◌≡◌, ◌⊎◌, ◌<◌, ◌≤◌, ◌+◌, ◌-◌, ◌++◌, ℕ, zero, suc, Bool, true, false, cond, List, [], ◌∷◌, length, refl, sym, ◌∙◌, ap, subst, arith, inl, inr, map}
use Rattle.std.specs.Prelude.{neg_ℤ, slice_index}
use Rattle.std.specs.List.{range_with_len}
use Rattle.fibs_fields.specs.Board.{BoardFields, IsBoard}
use Rattle.fibs_fields.specs.FieldRanges.{FieldRanges}
use Rattle.fibs_position.specs.DirectionOf.{direction_of}
use Rattle.fibs_position.specs.OwnView.{own_view, places, stand_on, colour, other_off, own_placed}
use Rattle.fibs_position.specs.PositionValue.{PositionValue, position_of}
use Rattle.fibs_position.specs.declared.direction.Direction.{Direction}
use Rattle.fibs_position.specs.declared.direction.Direction.TheVariants.{Down, Up}
use Rattle.fibs_picture.specs.Cell.{label, byte_at, place_of, place_ink, seen_column, seen_row}
use Rattle.fibs_picture.specs.Ink.{stack}
use Rattle.fibs_picture.specs.Look.{HasLetters}
use Rattle.fibs_position.specs.NumbersOf.{counted}
use Rattle.fibs_picture.specs.Strip.{strip_at, is_left_out, board_width}
use Rattle.fibs_picture.specs.Rows.{SameRow, FiveRows, AlikeRows, CellsTell}
use Rattle.fibs_picture.specs.declared.cell.Drawn.{Drawn}
use Rattle.fibs_picture.specs.declared.cell.Drawn.TheVariants as D
use Rattle.fibs_picture.specs.declared.cell.Half.{Half}
use Rattle.fibs_picture.specs.declared.cell.Half.TheVariants as half
use Rattle.fibs_picture.specs.declared.look.Look.{Look}
use Rattle.fibs_position.specs.declared.numbers.Numbers.{Numbers}
use Rattle.fibs_position.specs.declared.numbers.Numbers.TheVariants as N
use Rattle.fibs_picture.specs.declared.strip.Strip.TheVariants as S
use Rattle.fibs_picture.proofs.PictureLemmas.Rows.{parts-tell, rows-wide, columns-same, nth-of, map-same}
use Rattle.fibs_picture.proofs.PictureLemmas.Reading.{OneSide, ink-tells, stack-small, inks-tell}
use Rattle.fibs_picture.proofs.PictureLemmas.Where.{column_of, IsShown, middle-shown, before-shown}
use Rattle.fibs_picture.proofs.PictureLemmas.Sides.{one-side}

-- ---- equal rows have equal bytes

-- a column is as wide on each board
cond-wide : (b : Bool) (x y : ℕ) → length (cond b [] (x ∷ [])) ≡ length (cond b [] (y ∷ []))
cond-wide true x y = refl
cond-wide false x y = refl

-- whatever stands there
pub column-wide : (look : Look) (p q : PositionValue) (drawn : Drawn) (k : ℕ)
    → length (seen_column look p drawn k) ≡ length (seen_column look q drawn k)
unfolding seen_column
column-wide look p q drawn k = cond-wide (is_left_out look.columns k) (byte_at look p drawn (strip_at k))
    (byte_at look q drawn (strip_at k))

-- rows with what follows them are equal in both
pub row-ends : (look : Look) (p q : PositionValue) (drawn : Drawn) (u v : List ℕ)
    → seen_row look p drawn ++ u ≡ seen_row look q drawn ++ v → (seen_row look p drawn ≡ seen_row look q drawn)
    × (u ≡ v)
row-ends look p q drawn u v e = parts-tell (seen_row look p drawn) (seen_row look q drawn) u v
    (rows-wide (seen_column look p drawn) (seen_column look q drawn) (column-wide look p q drawn)
    (range_with_len 0 (board_width look.columns))) e

-- a column that is shown tells its byte
cond-tells : (b : Bool) (x y : ℕ) → b ≡ false → cond b [] (x ∷ []) ≡ cond b [] (y ∷ []) → x ≡ y
cond-tells true x y h e = cc
cond-tells false x y h e = cc

-- if it is shown
byte-tells : (look : Look) (p q : PositionValue) (drawn : Drawn) (k : ℕ) → is_left_out look.columns k ≡ false
    → seen_column look p drawn k ≡ seen_column look q drawn k
    → byte_at look p drawn (strip_at k) ≡ byte_at look q drawn (strip_at k)
unfolding seen_column
byte-tells look p q drawn k h e = cond-tells (is_left_out look.columns k) (byte_at look p drawn (strip_at k))
    (byte_at look q drawn (strip_at k)) h e

-- equal rows have the same byte in each column of a place that is shown
pub place-tells : (look : Look) (p q : PositionValue) (drawn : Drawn) (i part : ℕ) → IsShown look.columns i part
    → seen_row look p drawn ≡ seen_row look q drawn
    → byte_at look p drawn (S.Place i part) ≡ byte_at look q drawn (S.Place i part)
place-tells look p q drawn i part s e =
    let k = column_of i part in
    let same = columns-same (seen_column look p drawn) (seen_column look q drawn) (column-wide look p q drawn)
    0 (board_width look.columns) e k (omega arith) (omega (arith, s.within)) in
    subst (λ strip. byte_at look p drawn strip ≡ byte_at look q drawn strip) s.strip
    (byte-tells look p q drawn k s.shown same)

-- ---- the checkers

-- the player's checkers on a place
pub own-at : (b : BoardFields) (place : ℕ) → 1 ≤ place → place ≤ 24
    → slice_index (own_view b).own place ≡ stand_on b (colour b) place
unfolding own_view places
own-at b zero low high = absurd (omega (arith, low))
own-at b (suc k) low high =
    nth-of (stand_on b (colour b)) 1 24 k ((15 - own_placed b) ∷ []) (omega (arith, high))
    ∙ ap (stand_on b (colour b)) (omega arith)

-- and the opponent's
pub other-at : (b : BoardFields) (place : ℕ) → 1 ≤ place → place ≤ 24
    → slice_index (own_view b).other place ≡ stand_on b (neg_ℤ (colour b)) place
unfolding own_view places
other-at b zero low high = absurd (omega (arith, low))
other-at b (suc k) low high =
    nth-of (stand_on b (neg_ℤ (colour b))) 1 24 k (other_off b ∷ []) (omega (arith, high))
    ∙ ap (stand_on b (neg_ℤ (colour b))) (omega arith)

-- a place of a board holds checkers of one side
one-at : FieldRanges → (b : BoardFields) → IsBoard b → (place : ℕ) → 1 ≤ place → place ≤ 24
    → OneSide (slice_index (own_view b).own place) (slice_index (own_view b).other place)
one-at r b board place low high =
    let t = one-side r b board place (omega (arith, high)) in
    rw (own-at b place low high, other-at b place low high) t

-- two boards have the same checkers on a place
SameOn : BoardFields → BoardFields → ℕ → Type 0
SameOn a b place = (slice_index (own_view a).own place ≡ slice_index (own_view b).own place)
    × (slice_index (own_view a).other place ≡ slice_index (own_view b).other place)

-- the bytes of a place at a height tell what stands there
ink-at-tells : (look : Look) → HasLetters look → (a b : BoardFields) (h : Half) (i height part : ℕ)
    → OneSide (slice_index (own_view a).own (place_of h i)) (slice_index (own_view a).other (place_of h i))
    → OneSide (slice_index (own_view b).own (place_of h i)) (slice_index (own_view b).other (place_of h i))
    → IsShown look.columns i part → SameRow look a b (D.Layer h height)
    → place_ink (own_view a) (place_of h i) height part ≡ place_ink (own_view b) (place_of h i) height part
ink-at-tells look letters a b h i height part s t shown e =
    let place = place_of h i in
    ink-tells look letters (place_ink (own_view a) place height part) (place_ink (own_view b) place height part)
    (stack-small (slice_index (own_view a).own place) (slice_index (own_view a).other place) height part
    (omega (arith, s.few_own)) (omega (arith, s.few_other)))
    (stack-small (slice_index (own_view b).own place) (slice_index (own_view b).other place) height part
    (omega (arith, t.few_own)) (omega (arith, t.few_other)))
    (place-tells look (position_of a) (position_of b) (D.Layer h height) i part shown e)

-- so it tells its checkers
half-tells : (look : Look) → HasLetters look → (a b : BoardFields) (h : Half) (i : ℕ) → i < 12
    → OneSide (slice_index (own_view a).own (place_of h i)) (slice_index (own_view a).other (place_of h i))
    → OneSide (slice_index (own_view b).own (place_of h i)) (slice_index (own_view b).other (place_of h i))
    → FiveRows look a b h → SameOn a b (place_of h i)
unfolding SameOn
half-tells look letters a b h i few s t e =
    let middle = middle-shown look.columns i few in
    let before = before-shown look.columns i few in
    let place = place_of h i in
    inks-tell (slice_index (own_view a).own place) (slice_index (own_view a).other place)
    (slice_index (own_view b).own place) (slice_index (own_view b).other place) s t record {
      first = ink-at-tells look letters a b h i 1 1 s t middle e.first;
      second = ink-at-tells look letters a b h i 2 1 s t middle e.second;
      third = ink-at-tells look letters a b h i 3 1 s t middle e.third;
      fourth = ink-at-tells look letters a b h i 4 1 s t middle e.fourth;
      before_fifth = ink-at-tells look letters a b h i 5 0 s t before e.fifth;
      fifth = ink-at-tells look letters a b h i 5 1 s t middle e.fifth;
    }

-- a place of a half by how many are at its left
lower-tells : (look : Look) → HasLetters look → FieldRanges → (a b : BoardFields) → IsBoard a → IsBoard b
    → AlikeRows look a b → (i : ℕ) → i < 12 → SameOn a b (12 - i)
lower-tells look letters r a b h k e i few = half-tells look letters a b half.Lower i few
    (one-at r a h (12 - i) (omega (arith, few)) (omega arith)) (one-at r b k (12 - i) (omega (arith, few))
    (omega arith)) e.lower

-- of the upper half
upper-tells : (look : Look) → HasLetters look → FieldRanges → (a b : BoardFields) → IsBoard a → IsBoard b
    → AlikeRows look a b → (i : ℕ) → i < 12 → SameOn a b (13 + i)
upper-tells look letters r a b h k e i few = half-tells look letters a b half.Upper i few
    (one-at r a h (13 + i) (omega arith) (omega (arith, few))) (one-at r b k (13 + i) (omega arith) (omega
    (arith, few))) e.upper

-- a number is at most twelve, or more
at-most-or-more : (n : ℕ) → (n ≤ 12) ⊎ (12 < n)
at-most-or-more n = grind (arith)

-- each place
on-place : (look : Look) → HasLetters look → FieldRanges → (a b : BoardFields) → IsBoard a → IsBoard b
    → AlikeRows look a b → (place : ℕ) → 1 ≤ place → place ≤ 24 → SameOn a b place
on-place look letters r a b h k e place low high = elim (at-most-or-more place) [
  | inl less ↦ subst (SameOn a b) (omega (arith, less)) (lower-tells look letters r a b h k e (12 - place) (omega
      (arith, low, less)))
  | inr more ↦ subst (SameOn a b) (omega (arith, more)) (upper-tells look letters r a b h k e (place - 13) (omega
      (arith, high, more)))
]

-- of the player's
own-on : (a b : BoardFields) (place : ℕ) → SameOn a b place
    → slice_index (own_view a).own place ≡ slice_index (own_view b).own place
unfolding SameOn
own-on a b place s = s.0

-- of the opponent's
other-on : (a b : BoardFields) (place : ℕ) → SameOn a b place
    → slice_index (own_view a).other place ≡ slice_index (own_view b).other place
unfolding SameOn
other-on a b place s = s.1

-- ---- the numbers

-- the last digit of the twelfth place tells the way
label-tells : (d e : Direction) → label d 12 1 ≡ label e 12 1 → d ≡ e
label-tells Down Down h = refl
label-tells Up Up h = refl
label-tells Down Up h = absurd (omega (arith, h))
label-tells Up Down h = absurd (omega (arith, h))

-- the server's numbers tell which way the player goes
way-tells : (numbers : Numbers) (d e : Direction) → numbers ≡ N.TheServers
    → label (counted numbers d) 12 1 ≡ label (counted numbers e) 12 1 → d ≡ e
way-tells N.TheServers d e h k = label-tells d e k
way-tells N.TheOwn d e h k = cc

-- ---- the law
pub cells-tell : FieldRanges → CellsTell
unfolding places
cells-tell r look a b letters h k e =
    let on = on-place look letters r a b h k e in
    record {
      own = map-same (stand_on a (colour a)) (stand_on b (colour b)) 1 24 (λ place low high.
          let most : place ≤ 24 = omega (arith, high) in
          sym (own-at a place low most) ∙ own-on a b place (on place low most) ∙ own-at b place low most);
      other = map-same (stand_on a (neg_ℤ (colour a))) (stand_on b (neg_ℤ (colour b))) 1 24 (λ place low high.
          let most : place ≤ 24 = omega (arith, high) in
          sym (other-at a place low most) ∙ other-on a b place (on place low most) ∙ other-at b place low most);
      direction = λ shown. way-tells look.numbers (direction_of a) (direction_of b) shown
          (place-tells look (position_of a) (position_of b) (D.Edge half.Lower) 0 1
          (middle-shown look.columns 0 (omega arith)) e.edge);
    }
