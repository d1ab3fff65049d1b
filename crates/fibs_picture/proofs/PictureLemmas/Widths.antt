-- How wide the rows of a board are, and the facts in words; all of it is printed.
use Rattle.std.proofs.Common.{◌≡◌, ◌<◌, ◌≤◌, ◌+◌, ◌-◌, ◌/◌, ◌%◌, ◌^◌, ◌==◌, ◌&&◌, ◌++◌, ℕ, zero, suc, Bool, true, false, cond, codes, List, [], ◌∷◌, length, take, refl, ◌∙◌, ap, arith, lit<, lit≤, min, nat_lt, nat_le}
use Rattle.std.specs.Prelude.{ℤ, pos, negsuc, decimal, slice_index}
use Rattle.std.specs.Fmt.{signed_decimal}
use Rattle.std.specs.Int.{is_in_range}
use Rattle.std.specs.List.{flat_map, list_all, range_with_len}
use Rattle.std.specs.Ordering.{int_eq}
use Rattle.std.specs.Str.{bytes_eq}
use Rattle.std.proofs.lemmas.Bool.{and_parts}
use Rattle.std.proofs.lemmas.Bool.Decides.{nat_tests}
use Rattle.std.proofs.lemmas.Fmt.{length-decimal-le}
use Rattle.std.proofs.lemmas.Int.{ints}
use Rattle.std.proofs.lemmas.List.{length-append, length-take}
use Rattle.std.proofs.lemmas.List.Folds.{list_all-append}
use Rattle.std.proofs.Math.Nat.{min-le_left, min-le_right, le-min}
use Rattle.fibs_fields.specs.Board.{BoardFields, field_of}
use Rattle.fibs_fields.specs.FieldReading.{natural}
use Rattle.fibs_position.specs.DirectionOf.{line_place}
use Rattle.fibs_position.specs.OwnView.{own_view, turn, colour}
use Rattle.fibs_position.specs.PositionValue.{PositionValue, position_of}
use Rattle.fibs_position.specs.declared.direction.Direction.{Direction}
use Rattle.fibs_position.specs.declared.direction.Direction.TheVariants.{Down, Up}
use Rattle.fibs_picture.specs.Cell.{label, floor, place_of, ink_at, byte_at, seen_column, seen_row}
use Rattle.fibs_picture.specs.Ink.{stack, byte_of, IsSmall}
use Rattle.fibs_picture.specs.Look.{IsLetter, HasLetters}
use Rattle.fibs_position.specs.NumbersOf.{counted}
use Rattle.fibs_picture.specs.Notes.{says_long_words, spaced, room, lettered, labelled, two_dice, race_count, race_word, match_words, whose, doublers, others_turn, turn_words, note}
use Rattle.fibs_picture.specs.Picture.{own_pips, other_pips, is_one}
use Rattle.fibs_picture.specs.Strip.{strip_at, is_below, is_left_out, board_width, IsWithin}
use Rattle.fibs_picture.specs.Tells.{IsSeen}
use Rattle.fibs_picture.specs.declared.cell.Drawn.{Drawn}
use Rattle.fibs_picture.specs.declared.cell.Drawn.TheVariants as D
use Rattle.fibs_picture.specs.declared.cell.Half.{Half}
use Rattle.fibs_picture.specs.declared.cell.Half.TheVariants as half
use Rattle.fibs_picture.specs.declared.ink.Ink.{Ink}
use Rattle.fibs_picture.specs.declared.ink.Ink.TheVariants as I
use Rattle.fibs_picture.specs.declared.look.Look.{Look}
use Rattle.fibs_picture.specs.declared.mark.Mark.TheVariants as M
use Rattle.fibs_picture.specs.declared.notes.Note.{Note}
use Rattle.fibs_picture.specs.declared.notes.Note.TheVariants as T
use Rattle.fibs_picture.specs.declared.strip.Strip.{Strip}
use Rattle.fibs_picture.specs.declared.strip.Strip.TheVariants as S
use Rattle.fibs_picture.proofs.PictureLemmas.Ranges.{Ranges, Within, own-few, other-few, own-pips-least, other-pips-least}
use Rattle.fibs_picture.proofs.PictureLemmas.Reading.{all_below, below, stack-small}
use Rattle.fibs_picture.proofs.PictureLemmas.Rows.{rows-wide}
use Rattle.fibs_picture.proofs.PictureLemmas.Solid.{plain-word}
use Rattle.fibs_picture.proofs.PictureLemmas.Spaced.{cube_spaced}
use Rattle.fibs_picture.proofs.PictureLemmas.Where.{is_outer}
use Rattle.fibs_picture.proofs.PictureLemmas.Words.{all-mono, solid, is_row}

-- ---- printed text

-- each byte is printed, or a space
abbrev pub printed : List ℕ → Bool
printed text = list_all (is_in_range 32 126) text

-- two printed texts in a row are printed
pub printed-append : (xs ys : List ℕ) → printed xs ≡ true → printed ys ≡ true → printed (xs ++ ys) ≡ true
printed-append xs ys h k = rw (list_all-append (is_in_range 32 126) xs ys, h, k) refl

-- a byte that is no space
solid-byte : (x : ℕ) → is_in_range 33 126 x ≡ true → is_in_range 32 126 x ≡ true
solid-byte x h = grind (arith, nat_tests)

-- words are printed
word-printed : (w : List ℕ) → solid w ≡ true → printed w ≡ true
word-printed w h = all-mono (is_in_range 33 126) (is_in_range 32 126) solid-byte w h

-- and rows of them
pub row-printed : (ws : List (List ℕ)) → is_row ws ≡ true → printed (spaced ws) ≡ true
row-printed [] h = refl
row-printed (w ∷ []) h = word-printed w h
row-printed (w ∷ x ∷ ws) h =
    let parts = and_parts (solid w) (is_row (x ∷ ws)) h in
    printed-append w (32 ∷ spaced (x ∷ ws)) (word-printed w parts.0) (row-printed (x ∷ ws) parts.1)

-- ---- how wide a row of the board is

-- a column that is shown, on a terminal that is tight or not
abbrev column : Bool → ℕ → List ℕ
column tight k = cond (is_outer k && tight) [] (32 ∷ [])

-- all of them
all-columns : (tight under : Bool)
    → length (flat_map (column tight) (range_with_len 0 (cond under 44 47)))
    ≡ cond tight (cond under 40 43) (cond under 44 47)
all-columns true true = refl
all-columns true false = refl
all-columns false true = refl
all-columns false false = refl

-- a column is as wide with any byte
one-wide : (out : Bool) (x y : ℕ) → length (cond out [] (x ∷ [])) ≡ length (cond out [] (y ∷ []))
one-wide true x y = refl
one-wide false x y = refl

-- it is as wide as any
column-same : (look : Look) (p : PositionValue) (drawn : Drawn) (k : ℕ)
    → length (seen_column look p drawn k) ≡ length (column (nat_le look.columns 43) k)
unfolding seen_column
column-same look p drawn k = one-wide (is_left_out look.columns k) (byte_at look p drawn (strip_at k)) 32

-- a row of a board
row-width : (look : Look) (p : PositionValue) (drawn : Drawn)
    → length (seen_row look p drawn)
    ≡ cond (nat_le look.columns 43) (cond (is_below look.columns) 40 43) (cond (is_below look.columns) 44 47)
row-width look p drawn =
    rows-wide (seen_column look p drawn) (column (nat_le look.columns 43)) (column-same look p drawn)
    (range_with_len 0 (board_width look.columns))
    ∙ all-columns (nat_le look.columns 43) (is_below look.columns)

-- what is said of a width for both tight and wide terminals
most-47 : (tight under : Bool) (n : ℕ) → n ≡ cond tight (cond under 40 43) (cond under 44 47) → n ≤ 47
most-47 true true n e = omega (arith, e)
most-47 true false n e = omega (arith, e)
most-47 false true n e = omega (arith, e)
most-47 false false n e = omega (arith, e)

-- at most 47 columns are the board's
pub wide-row : (look : Look) (p : PositionValue) (drawn : Drawn) → length (seen_row look p drawn) ≤ 47
wide-row look p drawn = most-47 (nat_le look.columns 43) (is_below look.columns) (length (seen_row look p drawn))
    (row-width look p drawn)

-- with the words below it the board alone fits
alone : (columns : ℕ) (tight under : Bool) (n : ℕ) → nat_le columns 43 ≡ tight → under ≡ true → 40 ≤ columns
    → n ≡ cond tight (cond under 40 43) (cond under 44 47) → n ≤ columns
alone columns true true n t u least e = omega (arith, e, least)
alone columns true false n t u least e = cc
alone columns false false n t u least e = cc
alone columns false true n t u least e = let more : 43 < columns = grind (arith, nat_tests) in omega (arith, e, more)

-- the board alone fits
pub narrow-row : (look : Look) (p : PositionValue) (drawn : Drawn) → is_below look.columns ≡ true → 40 ≤ look.columns
    → length (seen_row look p drawn) ≤ look.columns
narrow-row look p drawn h least =
    alone look.columns (nat_le look.columns 43) (is_below look.columns) (length (seen_row look p drawn)) refl h least
    (row-width look p drawn)

-- ---- the bytes of a row

-- a choice of two printed bytes
byte-cond : (b : Bool) (x y : ℕ) → is_in_range 32 126 x ≡ true → is_in_range 32 126 y ≡ true
    → is_in_range 32 126 (cond b x y) ≡ true
byte-cond true x y h k = h
byte-cond false x y h k = k

-- a digit is printed
digit-printed : (n : ℕ) → n < 10 → is_in_range 32 126 (48 + n) ≡ true
digit-printed n h = grind (arith, nat_tests)

-- a letter is
letter-printed : (letter : ℕ) → IsLetter letter → is_in_range 32 126 letter ≡ true
letter-printed letter h = let low = h.0 in let high = h.1 in grind (arith, nat_tests)

-- a number of a place has two digits
line_place-few : (d : Direction) (place : ℕ) → place ≤ 25 → line_place d place < 100
line_place-few Down place h = omega (arith, h)
line_place-few Up place h = omega arith

-- so it is printed
label-printed : (d : Direction) (place part : ℕ) → place ≤ 25 → is_in_range 32 126 (label d place part) ≡ true
label-printed d place part h =
    let n = line_place d place in
    let few = line_place-few d place h in
    byte-cond (part == 1) (48 + n % 10) (cond ((part == 0) && nat_le 10 n) (48 + n / 10) 45)
    (digit-printed (n % 10) (omega arith))
    (byte-cond ((part == 0) && nat_le 10 n) (48 + n / 10) 45 (digit-printed (n / 10) (omega (arith, few))) refl)

-- a place of a board
place-few : (h : Half) (i : ℕ) → i < 12 → place_of h i ≤ 25
place-few half.Upper i few = omega (arith, few)
place-few half.Lower i few = omega arith

-- what is drawn where nothing stands
floor-printed : (look : Look) (d : Direction) (drawn : Drawn) (strip : Strip) → IsWithin strip
    → is_in_range 32 126 (floor look d drawn strip) ≡ true
floor-printed look d (D.Edge h) S.Wall w = refl
floor-printed look d (D.Edge h) (S.Bar part) w = refl
floor-printed look d (D.Edge h) (S.Place i part) w =
    label-printed (counted look.numbers d) (place_of h i) part (place-few h i w.0)
floor-printed look d (D.Edge h) S.Margin w = refl
floor-printed look d (D.Layer h height) S.Wall w = refl
floor-printed look d (D.Layer h height) (S.Bar part) w = refl
floor-printed look d (D.Layer h height) (S.Place i part) w = refl
floor-printed look d (D.Layer h height) S.Margin w = refl
floor-printed look d D.Middle S.Wall w = refl
floor-printed look d D.Middle (S.Bar part) w = byte-cond (part == 0) 66 (cond (part == 1) 65 82) refl
    (byte-cond (part == 1) 65 82 refl refl)
floor-printed look d D.Middle (S.Place i part) w = refl
floor-printed look d D.Middle S.Margin w = refl

-- no place has more checkers than two digits can say
pub record IsFew (p : PositionValue) : Type 0 where
  pub own : (k : ℕ) → slice_index p.standing.checkers.own k < 100
  pub other : (k : ℕ) → slice_index p.standing.checkers.other k < 100

-- so it is of a board
pub few-checkers : (b : BoardFields) → IsSeen b → IsFew (position_of b)
few-checkers b s = record {
  own = λ k. let few = own-few b s.own k in omega (arith, few);
  other = λ k. let few = other-few b s.other k in omega (arith, few);
}

-- what stands there is small
ink-small : (p : PositionValue) → IsFew p → (drawn : Drawn) (strip : Strip) → IsSmall (ink_at p drawn strip)
ink-small p few (D.Edge h) strip = tt
ink-small p few D.Middle strip = tt
ink-small p few (D.Layer h height) S.Wall = tt
ink-small p few (D.Layer h height) S.Margin = tt
ink-small p few (D.Layer h height) (S.Place i part) =
    stack-small (slice_index p.standing.checkers.own (place_of h i)) (slice_index p.standing.checkers.other
    (place_of h i))
    height part (few.own (place_of h i)) (few.other (place_of h i))
ink-small p few (D.Layer half.Upper height) (S.Bar part) =
    stack-small (slice_index p.standing.checkers.own 25) 0 height part (few.own 25) (lit< tt)
ink-small p few (D.Layer half.Lower height) (S.Bar part) =
    stack-small 0 (slice_index p.standing.checkers.other 0) height part (lit< tt) (few.other 0)

-- what is shown there
ink-printed : (look : Look) → HasLetters look → (under : ℕ) (i : Ink) → is_in_range 32 126 under ≡ true → IsSmall i
    → is_in_range 32 126 (byte_of look under i) ≡ true
ink-printed look h under I.Blank k s = k
ink-printed look h under I.Own k s = letter-printed look.own h.own
ink-printed look h under I.Other k s = letter-printed look.other h.other
ink-printed look h under (I.Digit n) k s = digit-printed n s

-- a column is of the board
is_within : Strip → Bool
is_within (S.Place i part) = nat_lt i 12 && nat_lt part 3
is_within (S.Bar part) = nat_lt part 3
is_within S.Wall = true
is_within S.Margin = true

less : (m n : ℕ) → nat_lt m n ≡ true → m < n
less m n h = grind (arith, nat_tests)

-- if it is found to be
within-is : (strip : Strip) → is_within strip ≡ true → IsWithin strip
unfolding is_within
within-is (S.Place i part) h =
    let parts = and_parts (nat_lt i 12) (nat_lt part 3) h in (less i 12 parts.0, less part 3 parts.1)
within-is (S.Bar part) h = less part 3 h
within-is S.Wall h = tt
within-is S.Margin h = tt

-- all are
all-within : all_below (λ k. is_within (strip_at k)) 47 ≡ true
unfolding is_within strip_at
all-within = refl

column-within : (k : ℕ) → k < 47 → IsWithin (strip_at k)
column-within k h = within-is (strip_at k) (below (λ k. is_within (strip_at k)) 47 k h all-within)

-- so a row is printed
one-printed : (out : Bool) (x : ℕ) → is_in_range 32 126 x ≡ true → printed (cond out [] (x ∷ [])) ≡ true
one-printed true x h = refl
one-printed false x h = rw h refl

-- a column is printed
column-printed : (look : Look) → HasLetters look → (p : PositionValue) → IsFew p → (drawn : Drawn) (k : ℕ) → k < 47
    → printed (seen_column look p drawn k) ≡ true
unfolding seen_column
column-printed look h p few drawn k less =
    one-printed (is_left_out look.columns k) (byte_at look p drawn (strip_at k))
    (ink-printed look h (floor look p.direction drawn (strip_at k)) (ink_at p drawn (strip_at k))
    (floor-printed look p.direction drawn (strip_at k) (column-within k less)) (ink-small p few drawn (strip_at k)))

-- columns in a row are
columns-printed : (f : ℕ → List ℕ) (start n : ℕ) → ((k : ℕ) → k < start + n → printed (f k) ≡ true)
    → printed (flat_map f (range_with_len start n)) ≡ true
columns-printed f start zero h = refl
columns-printed f start (suc n) h =
    printed-append (f start) (flat_map f (range_with_len (start + 1) n)) (h start (omega arith))
    (columns-printed f (start + 1) n (λ k few. h k (omega (arith, few))))

-- the board has at most 47
board-most : (under : Bool) → cond under 44 47 ≤ 47
board-most true = omega arith
board-most false = omega arith

-- a row is printed
pub board-printed : (look : Look) → HasLetters look → (p : PositionValue) → IsFew p → (drawn : Drawn)
    → printed (seen_row look p drawn) ≡ true
board-printed look h p few drawn =
    columns-printed (seen_column look p drawn) 0 (board_width look.columns)
    (λ k less. column-printed look h p few drawn k (omega (arith, less, board-most (is_below look.columns))))

-- ---- how wide a fact is

-- a choice of two
width-cond : (b : Bool) (xs ys : List (List ℕ)) (n : ℕ) → length (spaced xs) ≤ n → length (spaced ys) ≤ n
    → length (spaced (cond b xs ys)) ≤ n
width-cond true xs ys n h k = h
width-cond false xs ys n h k = k

-- room below the board, and beside it
room-most : (columns : ℕ) (under : Bool) → is_below columns ≡ under
    → (25 ≤ cond under 32 (min columns 79 - 47)) × (cond under 32 (min columns 79 - 47) ≤ 32)
room-most columns true h = (omega arith, omega arith)
room-most columns false h =
    let more : 72 ≤ columns = grind (arith, nat_tests) in
    let least : 72 ≤ min columns 79 = le-min more (lit≤ tt) in
    (omega (arith, least), omega (arith, min-le_right columns 79))

-- a fact has 25 columns at least, and 32 at most
pub room-is : (columns : ℕ) → (25 ≤ room columns) × (room columns ≤ 32)
unfolding room
room-is columns = room-most columns (is_below columns) refl

-- beside the board the row fits
room-beside : (columns : ℕ) (under : Bool) → is_below columns ≡ under → under ≡ false
    → (47 + cond under 32 (min columns 79 - 47) ≤ columns) × (47 + cond under 32 (min columns 79 - 47) ≤ 79)
room-beside columns true h k = cc
room-beside columns false h k =
    let more : 72 ≤ columns = grind (arith, nat_tests) in
    let least : 72 ≤ min columns 79 = le-min more (lit≤ tt) in
    (omega (arith, least, min-le_left columns 79), omega (arith, least, min-le_right columns 79))

-- with its room the row fits
pub beside-fits : (columns : ℕ) → is_below columns ≡ false → (47 + room columns ≤ columns) × (47 + room columns ≤ 79)
unfolding room
beside-fits columns h = room-beside columns (is_below columns) refl h

-- digits
digits-few : (m k : ℕ) (z : ℤ) → m < 2 ^ 32 → 0 < k → m < 10 ^ k → Within m z → length (signed_decimal z) ≤ k
digits-few m k (pos n) few some fits h =
    length-decimal-le k n some (omega (arith, ints, fits, h.1)) (omega (arith, ints, h.1))
digits-few m k (negsuc n) few some fits h = absurd (omega (arith, ints, h.0))

-- a name
name-width : (letter n : ℕ) (name : List ℕ) → 2 ≤ n → length (spaced (lettered letter (take (n - 2) name))) ≤ n
name-width letter n name h = omega (arith, h, length-take (n - 2) name)

-- a word behind a label
score-width : (under : Bool) (w : List ℕ) (n : ℕ) → length w ≤ 8 → 25 ≤ n
    → length (spaced (labelled under (codes "score") [] (w ∷ []))) ≤ n
score-width true w n h k = omega (arith, h, k)
score-width false w n h k = omega (arith, h, k)

-- what is off
off-width : (under : Bool) (w : List ℕ) (n : ℕ) → length w ≤ 8 → 25 ≤ n
    → length (spaced (labelled under (codes "off") ([] ∷ [] ∷ []) (w ∷ []))) ≤ n
off-width true w n h k = omega (arith, h, k)
off-width false w n h k = omega (arith, h, k)

-- pips
pips-width : (under : Bool) (w : List ℕ) (n : ℕ) → length w ≤ 8 → 25 ≤ n
    → length (spaced (labelled under (codes "pips") ([] ∷ []) (w ∷ []))) ≤ n
pips-width true w n h k = omega (arith, h, k)
pips-width false w n h k = omega (arith, h, k)

-- a number in brackets, or a word
count-width : (even behind : Bool) (m n : ℕ) → length (decimal m) ≤ 3 → length (decimal n) ≤ 3
    → length (cond even (codes "(even") (40 ∷ decimal (cond behind m n))) ≤ 5
count-width true behind m n h k = omega arith
count-width false true m n h k = omega (arith, h)
count-width false false m n h k = omega (arith, k)

-- the word behind it
word-width : (even behind : Bool) → length (cond even (codes "race)") (cond behind (codes "behind)") (codes "ahead)")))
    ≤ 7
word-width true behind = omega arith
word-width false true = omega arith
word-width false false = omega arith

-- pips, and how far the player is behind or ahead
race-width : (under : Bool) (w x y : List ℕ) (n : ℕ) → length w ≤ 3 → length x ≤ 5 → length y ≤ 7 → 25 ≤ n
    → length (spaced (labelled under (codes "pips") ([] ∷ []) (w ∷ x ∷ y ∷ []))) ≤ n
race-width true w x y n h k l m =
    omega (arith, h, k, l, m, length-append w (32 ∷ (x ++ (32 ∷ y))), length-append x (32 ∷ y))
race-width false w x y n h k l m =
    omega (arith, h, k, l, m, length-append w (32 ∷ (x ++ (32 ∷ y))), length-append x (32 ∷ y))

-- two dice
two-width : (under none : Bool) (m k n : ℕ) → 25 ≤ n
    → length (spaced (labelled under (codes "dice") ([] ∷ [])
    (cond none ((45 ∷ []) ∷ []) (((48 + m) ∷ []) ∷ ((48 + k) ∷ []) ∷ [])))) ≤ n
two-width true true m k n h = omega (arith, h)
two-width false true m k n h = omega (arith, h)
two-width true false m k n h = omega (arith, h)
two-width false false m k n h = omega (arith, h)

-- the row of the dice
dice-width : (under : Bool) (m k n : ℕ) → 25 ≤ n
    → length (spaced (labelled under (codes "dice") ([] ∷ []) (two_dice M.Plain m k))) ≤ n
dice-width under m k n h = rw (plain-word m, plain-word k) (two-width under ((m == 0) && (k == 0)) m k n h)

-- the length of the match
match-width : (z : ℤ) (n : ℕ) → Within 9999 z → 25 ≤ n → length (spaced (match_words z)) ≤ n
match-width z n h k =
    let few = digits-few 9999 4 z (lit< tt) (lit< tt) (lit< tt) h in
    width-cond (int_eq z (pos 9999)) (codes "unlimited" ∷ codes "match" ∷ [])
    (codes "match" ∷ codes "to" ∷ signed_decimal z ∷ []) n (omega (arith, k)) (omega (arith, k, few))

-- what is a player's
whose-width : (n : ℕ) (name : List ℕ) → length (whose (take n name)) ≤ n + 2
whose-width n name = omega (arith, length-append (take n name) (codes "'s"), length-take n name)

-- the words have their long form only on a wide terminal
long-wide : (allowed : Bool) (columns : ℕ) → (allowed && nat_le 79 columns) ≡ true → 79 ≤ columns
long-wide true columns h = grind (arith, nat_tests)
long-wide false columns h = cc

-- a wide terminal has room for it
room-wide : (columns : ℕ) (under : Bool) → is_below columns ≡ under → 79 ≤ columns
    → 32 ≤ cond under 32 (min columns 79 - 47)
room-wide columns true h wide = omega arith
room-wide columns false h wide = let most : 79 ≤ min columns 79 = le-min wide (lit≤ tt) in omega (arith, most)

long-room : (look : Look) → says_long_words look ≡ true → 32 ≤ room look.columns
unfolding room
long-room look h = room-wide look.columns (is_below look.columns) refl (long-wide look.is_long look.columns h)

-- who may double
middle-width : (long : Bool) (left : ℕ) → (long ≡ true → 18 ≤ left) → 11 ≤ left
    → length (spaced (cond long (codes "in" ∷ codes "the" ∷ codes "middle" ∷ []) (codes "centred" ∷ []))) ≤ left
middle-width true left h k = let wide = h refl in omega (arith, wide)
middle-width false left h k = omega (arith, k)

-- the opponent's cube
others-width : (long : Bool) (left : ℕ) (name : List ℕ) → (long ≡ true → 18 ≤ left) → 11 ≤ left
    → length (spaced (cond long (codes "the" ∷ codes "opponent's" ∷ []) (whose (take (min (left - 2) 24) name)
    ∷ []))) ≤ left
others-width true left name h k = let wide = h refl in omega (arith, wide)
others-width false left name h k =
    omega (arith, k, whose-width (min (left - 2) 24) name, min-le_left (left - 2) 24)

-- a cube on a watched board
watched-width : (watched : Bool) (letter left : ℕ) (name : List ℕ) (xs : List (List ℕ)) → 11 ≤ left
    → length (spaced xs) ≤ left
    → length (spaced (cond watched (lettered letter (whose (take (min (left - 4) 14) name))) xs)) ≤ left
watched-width true letter left name xs k h =
    omega (arith, k, whose-width (min (left - 4) 14) name, min-le_left (left - 4) 14)
watched-width false letter left name xs k h = h

-- each of them
doublers-width : (look : Look) (watched : Bool) (b : BoardFields) (left : ℕ) (own other : Bool)
    → (says_long_words look ≡ true → 18 ≤ left) → 11 ≤ left
    → length (spaced (doublers look watched b left own other)) ≤ left
unfolding doublers
doublers-width look watched b left true true h k = middle-width (says_long_words look) left h k
doublers-width look watched b left true false h k =
    watched-width watched look.own left b.player (codes "yours" ∷ []) k (omega (arith, k))
doublers-width look watched b left false true h k =
    watched-width watched look.other left b.opponent
    (cond (says_long_words look) (codes "the" ∷ codes "opponent's" ∷ [])
    (whose (take (min (left - 2) 24) b.opponent) ∷ [])) k
    (others-width (says_long_words look) left b.opponent h k)
doublers-width look watched b left false false h k = omega (arith, k)

-- the cube
cube-width : (n : ℕ) (digits : List ℕ) (look : Look) (watched : Bool) (b : BoardFields) (own other : Bool)
    → length digits ≤ 7 → 25 ≤ n → (says_long_words look ≡ true → 32 ≤ n)
    → length (spaced (codes "cube" ∷ (digits ++ codes ",")
    ∷ doublers look watched b ((n - 7) - length digits) own other)) ≤ n
cube-width n digits look watched b own other few k wide =
    let left = (n - 7) - length digits in
    let ds = doublers look watched b left own other in
    let who = doublers-width look watched b left own other
    (λ h. let w = wide h in omega (arith, w, few)) (omega (arith, k, few)) in
    omega (
      arith,
      few,
      k,
      who,
      ap length (cube_spaced look watched b left digits own other),
      length-append digits (codes ", " ++ spaced ds),
    )

-- whose turn it is
named-turn-width : (n : ℕ) (name : List ℕ) → 8 ≤ n → length (spaced (whose (take (n - 8) name) ∷ codes "turn" ∷ [])) ≤ n
named-turn-width n name h = omega (
  arith,
  h,
  whose-width (n - 8) name,
  length-append (whose (take (n - 8) name)) (32 ∷ codes "turn"),
)

-- with a letter
lettered-turn-width : (letter n : ℕ) (name : List ℕ) → 9 ≤ n
    → length (spaced ((letter ∷ []) ∷ whose (take (n - 9) name) ∷ codes "turn" ∷ [])) ≤ n
lettered-turn-width letter n name h = omega (
  arith,
  h,
  whose-width (n - 9) name,
  length-append (whose (take (n - 9) name)) (32 ∷ codes "turn"),
)

-- the opponent's turn
others-turn-width : (look : Look) (n : ℕ) (name : List ℕ) → 25 ≤ n → length (spaced (others_turn look (take (n - 8)
    name))) ≤ n
unfolding others_turn
others-turn-width look n name h =
    let long = codes "the" ∷ codes "opponent's" ∷ codes "turn" ∷ [] in
    let short = whose (take (n - 8) name) ∷ codes "turn" ∷ [] in
    let whole : length (spaced long) ≤ n = omega (arith, h) in
    width-cond (says_long_words look) long (cond (bytes_eq (take (n - 8) name) (codes "nobody")) long short) n whole
    (width-cond (bytes_eq (take (n - 8) name) (codes "nobody")) long short n whole
    (named-turn-width n name (omega (arith, h))))

-- each turn
turn-width : (look : Look) (watched : Bool) (b : BoardFields) (none own : Bool)
    → length (spaced (turn_words look watched b none own)) ≤ room look.columns
unfolding turn_words
turn-width look watched b true own = let r = room-is look.columns in omega (arith, r.0)
turn-width look watched b false true =
    let r = room-is look.columns in
    width-cond watched ((look.own ∷ []) ∷ whose (take (room look.columns - 9) b.player) ∷ codes "turn" ∷ [])
    (codes "your" ∷ codes "turn" ∷ []) (room look.columns)
    (lettered-turn-width look.own (room look.columns) b.player (omega (arith, r.0))) (omega (arith, r.0))
turn-width look watched b false false =
    let r = room-is look.columns in
    width-cond watched ((look.other ∷ []) ∷ whose (take (room look.columns - 9) b.opponent) ∷ codes "turn" ∷ [])
    (others_turn look (take (room look.columns - 8) b.opponent)) (room look.columns)
    (lettered-turn-width look.other (room look.columns) b.opponent (omega (arith, r.0)))
    (others-turn-width look (room look.columns) b.opponent r.0)

-- each fact has room
pub note-width : (look : Look) (watched : Bool) (b : BoardFields) → IsSeen b → Ranges b → (n : Note)
    → length (spaced (note look watched b (position_of b) M.Plain n)) ≤ room look.columns
unfolding note
note-width look watched b s r (T.Name half.Upper) =
    name-width look.other (room look.columns) b.opponent (let m = room-is look.columns in omega (arith, m.0))
note-width look watched b s r (T.Name half.Lower) =
    name-width look.own (room look.columns) b.player (let m = room-is look.columns in omega (arith, m.0))
note-width look watched b s r (T.Score half.Upper) =
    score-width (is_below look.columns) (signed_decimal (field_of b 6)) (room look.columns)
    (digits-few 99999999 8 (field_of b 6) (lit< tt) (lit< tt) (lit< tt) r.other_score) (room-is look.columns).0
note-width look watched b s r (T.Score half.Lower) =
    score-width (is_below look.columns) (signed_decimal (field_of b 5)) (room look.columns)
    (digits-few 99999999 8 (field_of b 5) (lit< tt) (lit< tt) (lit< tt) r.own_score) (room-is look.columns).0
note-width look watched b s r (T.Off half.Upper) =
    off-width (is_below look.columns) (signed_decimal (field_of b 47)) (room look.columns)
    (digits-few 15 8 (field_of b 47) (lit< tt) (lit< tt) (lit< tt) r.other_off_is) (room-is look.columns).0
note-width look watched b s r (T.Off half.Lower) =
    off-width (is_below look.columns) (signed_decimal (field_of b 46)) (room look.columns)
    (digits-few 15 8 (field_of b 46) (lit< tt) (lit< tt) (lit< tt) r.own_off_is) (room-is look.columns).0
note-width look watched b s r (T.Pips half.Upper) =
    let most = other-pips-least b s.other in
    pips-width (is_below look.columns) (decimal (other_pips (own_view b))) (room look.columns)
    (length-decimal-le 8 (other_pips (own_view b)) (lit< tt) (omega (arith, most)) (omega (arith, most)))
    (room-is look.columns).0
note-width look watched b s r (T.Pips half.Lower) =
    let own = own_pips (own_view b) in
    let other = other_pips (own_view b) in
    let most = own-pips-least b s.own in
    let others = other-pips-least b s.other in
    race-width (is_below look.columns) (decimal own) (race_count own other) (race_word own other) (room look.columns)
    (length-decimal-le 3 own (lit< tt) (omega (arith, most)) (omega (arith, most)))
    (count-width (own == other) (nat_lt other own) (own - other) (other - own)
    (length-decimal-le 3 (own - other) (lit< tt) (omega (arith, most)) (omega (arith, most)))
    (length-decimal-le 3 (other - own) (lit< tt) (omega (arith, others)) (omega (arith, others))))
    (word-width (own == other) (nat_lt other own)) (room-is look.columns).0
note-width look watched b s r (T.Dice half.Upper) =
    dice-width (is_below look.columns) (natural (field_of b 36)) (natural (field_of b 37)) (room look.columns)
    (room-is look.columns).0
note-width look watched b s r (T.Dice half.Lower) =
    dice-width (is_below look.columns) (natural (field_of b 34)) (natural (field_of b 35)) (room look.columns)
    (room-is look.columns).0
note-width look watched b s r T.Length = match-width (field_of b 4) (room look.columns) r.length_of
    (room-is look.columns).0
note-width look watched b s r T.Cube =
    cube-width (room look.columns) (signed_decimal (field_of b 38)) look watched b (is_one b 39) (is_one b 40)
    (digits-few 1048576 7 (field_of b 38) (lit< tt) (lit< tt) (lit< tt) r.cube_is) (room-is look.columns).0
    (long-room look)
note-width look watched b s r T.Turn = turn-width look watched b (int_eq (turn b) (pos 0)) (int_eq (turn b) (colour b))
