-- What the eye sees of marked columns.
use Rattle.std.proofs.Common.{◌≡◌, ◌<◌, ◌+◌, ◌/◌, ◌%◌, ◌==◌, ◌&&◌, ◌++◌, ℕ, Bool, true, false, cond, List, [], ◌∷◌, refl, sym, ◌∙◌, ap, arith, append_assoc, nat_le}
use Rattle.std.specs.List.{flat_map, range_with_len}
use Rattle.fibs_position.specs.DirectionOf.{line_place}
use Rattle.fibs_position.specs.PositionValue.{PositionValue}
use Rattle.fibs_position.specs.declared.direction.Direction.{Direction}
use Rattle.fibs_picture.specs.Cell.{label, floor, ink_at, byte_at, mark_at, place_of, drawn_column, seen_column}
use Rattle.fibs_picture.specs.Ink.{byte_of}
use Rattle.fibs_picture.specs.Look.{HasLetters}
use Rattle.fibs_position.specs.NumbersOf.{counted}
use Rattle.fibs_picture.specs.Marks.{seen, seen_from, marked}
use Rattle.fibs_picture.specs.Strip.{strip_at, is_left_out, board_width}
use Rattle.fibs_picture.specs.Rows.{EyeSees}
use Rattle.fibs_picture.specs.declared.cell.Drawn.{Drawn}
use Rattle.fibs_picture.specs.declared.cell.Drawn.TheVariants as D
use Rattle.fibs_picture.specs.declared.ink.Ink.{Ink}
use Rattle.fibs_picture.specs.declared.ink.Ink.TheVariants as I
use Rattle.fibs_picture.specs.declared.look.Look.{Look}
use Rattle.fibs_picture.specs.declared.mark.Mark.{Mark}
use Rattle.fibs_picture.specs.declared.mark.Mark.TheVariants as M
use Rattle.fibs_picture.specs.declared.strip.Strip.{Strip}
use Rattle.fibs_picture.specs.declared.strip.Strip.TheVariants as S

-- ---- no byte of a board begins a mark

-- a choice of two such bytes
plain-cond : (b : Bool) (x y : ℕ) → 27 < x → 27 < y → 27 < cond b x y
plain-cond true x y h k = h
plain-cond false x y h k = k

-- of a number of a place
label-plain : (d : Direction) (place part : ℕ) → 27 < label d place part
label-plain d place part =
    let n = line_place d place in
    plain-cond (part == 1) (48 + n % 10) (cond ((part == 0) && nat_le 10 n) (48 + n / 10) 45) (omega arith)
    (plain-cond ((part == 0) && nat_le 10 n) (48 + n / 10) 45 (omega arith) (omega arith))

-- where nothing stands
floor-plain : (look : Look) (d : Direction) (drawn : Drawn) (strip : Strip) → 27 < floor look d drawn strip
floor-plain look d (D.Edge h) S.Wall = omega arith
floor-plain look d (D.Edge h) (S.Bar part) = omega arith
floor-plain look d (D.Edge h) (S.Place index part) = label-plain (counted look.numbers d) (place_of h index) part
floor-plain look d (D.Edge h) S.Margin = omega arith
floor-plain look d (D.Layer h height) S.Wall = omega arith
floor-plain look d (D.Layer h height) (S.Bar part) = omega arith
floor-plain look d (D.Layer h height) (S.Place index part) = omega arith
floor-plain look d (D.Layer h height) S.Margin = omega arith
floor-plain look d D.Middle S.Wall = omega arith
floor-plain look d D.Middle (S.Bar part) = plain-cond (part == 0) 66 (cond (part == 1) 65 82) (omega arith)
    (plain-cond (part == 1) 65 82 (omega arith) (omega arith))
floor-plain look d D.Middle (S.Place index part) = omega arith
floor-plain look d D.Middle S.Margin = omega arith

-- where something stands
byte-plain : (look : Look) → HasLetters look → (under : ℕ) → 27 < under → (ink : Ink) → 27 < byte_of look under ink
byte-plain look h under k I.Blank = k
byte-plain look h under k I.Own = omega (arith, h.own.0)
byte-plain look h under k I.Other = omega (arith, h.other.0)
byte-plain look h under k (I.Digit n) = omega arith

-- ---- so the eye sees it

-- a byte that begins no mark
pub no-mark : (byte : ℕ) → 27 < byte → (byte == 27) ≡ false
no-mark byte h = grind (arith)

-- a marked byte
pub marked-seen : (mark : Mark) (byte : ℕ) (rest : List ℕ) → 27 < byte
    → seen_from false (marked mark byte ++ rest) ≡ byte ∷ seen_from false rest
unfolding marked
marked-seen M.Plain byte rest h = rw (no-mark byte h) refl
marked-seen M.Own byte rest h = rw (no-mark byte h) refl
marked-seen M.Arrived byte rest h = rw (no-mark byte h) refl

-- a column that is left out, or not
shown-seen : (out : Bool) (mark : Mark) (byte : ℕ) (rest : List ℕ) → 27 < byte
    → seen_from false (cond out [] (marked mark byte) ++ rest) ≡ cond out [] (byte ∷ []) ++ seen_from false rest
shown-seen true mark byte rest h = refl
shown-seen false mark byte rest h = marked-seen mark byte rest h

-- a column of a row
column-seen : (look : Look) → HasLetters look → (p : PositionValue) (arrivals : List ℕ) (drawn : Drawn) (k : ℕ)
    (rest : List ℕ)
    → seen_from false (drawn_column look p arrivals drawn k ++ rest) ≡ seen_column look p drawn k
    ++ seen_from false rest
unfolding drawn_column seen_column
column-seen look h p arrivals drawn k rest =
    shown-seen (is_left_out look.columns k) (mark_at look p arrivals drawn (strip_at k)) (byte_at look p drawn
    (strip_at k))
    rest (byte-plain look h (floor look p.direction drawn (strip_at k)) (floor-plain look p.direction drawn
    (strip_at k))
    (ink_at p drawn (strip_at k)))

-- columns, one after another
pub columns-seen : (f g : ℕ → List ℕ)
    → ((k : ℕ) (rest : List ℕ) → seen_from false (f k ++ rest) ≡ g k ++ seen_from false rest)
    → (ks : List ℕ) (rest : List ℕ)
    → seen_from false (flat_map f ks ++ rest) ≡ flat_map g ks ++ seen_from false rest
columns-seen f g h [] rest = refl
columns-seen f g h (k ∷ ks) rest =
    ap (seen_from false) (append_assoc (f k) (flat_map f ks) rest)
    ∙ h k (flat_map f ks ++ rest)
    ∙ ap (λ t. g k ++ t) (columns-seen f g h ks rest)
    ∙ sym (append_assoc (g k) (flat_map g ks) (seen_from false rest))

-- the eye sees of a row its bytes
pub eye-sees : EyeSees
unfolding seen
eye-sees look p arrivals drawn rest h =
    columns-seen (drawn_column look p arrivals drawn) (seen_column look p drawn) (column-seen look h p arrivals drawn)
    (range_with_len 0 (board_width look.columns)) rest
