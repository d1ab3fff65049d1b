-- The cells of a board, seen by its player (the project's own, after the boards that FIBS and gnubg draw): a byte and
-- a mark for each row and column. The player's checkers go round to the lower right.
use Rattle.std.specs.Prelude.{◌+◌, ◌-◌, ◌/◌, ◌%◌, ◌==◌, ◌&&◌, ℕ, List, [], ◌∷◌, nat_le, slice_index, if◌then◌else◌}
use Rattle.std.specs.List.{flat_map, range_with_len}
use Rattle.fibs_rules.specs.Checkers.{Checkers}
use Rattle.fibs_position.specs.DirectionOf.{line_place}
use Rattle.fibs_position.specs.PositionValue.{PositionValue}
use Rattle.fibs_position.specs.declared.direction.Direction.{Direction}
use Rattle.fibs_picture.specs.Ink.{stack, byte_of}
use Rattle.fibs_position.specs.NumbersOf.{counted}
use Rattle.fibs_picture.specs.Marks.{is_arrived, marked}
use Rattle.fibs_picture.specs.Strip.{strip_at, is_left_out, board_width}
use Rattle.fibs_picture.specs.declared.cell.Drawn.{Drawn}
use Rattle.fibs_picture.specs.declared.cell.Drawn.TheVariants as D
use Rattle.fibs_picture.specs.declared.cell.Half.{Half}
use Rattle.fibs_picture.specs.declared.cell.Half.TheVariants as half
use Rattle.fibs_picture.specs.declared.ink.Ink.{Ink}
use Rattle.fibs_picture.specs.declared.ink.Ink.TheVariants as I
use Rattle.fibs_picture.specs.declared.look.Look.{Look}
use Rattle.fibs_picture.specs.declared.mark.Mark.{Mark}
use Rattle.fibs_picture.specs.declared.mark.Mark.TheVariants as M
use Rattle.fibs_picture.specs.declared.strip.Strip.{Strip}
use Rattle.fibs_picture.specs.declared.strip.Strip.TheVariants as S

-- the place so many from the left: the upper half counts up, and the lower half down
abbrev pub place_of : Half → ℕ → ℕ
place_of half.Upper index = 13 + index
place_of half.Lower index = 12 - index

-- a byte of the number of a place
abbrev pub label : Direction → ℕ → ℕ → ℕ
label direction place part =
    let n = line_place direction place in
    if part == 1 then 48 + n % 10 else (if (part == 0) && nat_le 10 n then 48 + n / 10 else 45)

-- the letters of the bar
abbrev pub bar_letter : ℕ → ℕ
bar_letter part = if part == 0 then 66 else (if part == 1 then 65 else 82)

-- the byte where nothing stands
abbrev pub floor : Look → Direction → Drawn → Strip → ℕ
floor look d (D.Edge h) S.Wall = 43
floor look d (D.Edge h) (S.Bar part) = 45
floor look d (D.Edge h) (S.Place index part) = label (counted look.numbers d) (place_of h index) part
floor look d (D.Edge h) S.Margin = 32
floor look d (D.Layer h height) S.Wall = 124
floor look d (D.Layer h height) (S.Bar part) = 32
floor look d (D.Layer h height) (S.Place index part) = 32
floor look d (D.Layer h height) S.Margin = 32
floor look d D.Middle S.Wall = 124
floor look d D.Middle (S.Bar part) = bar_letter part
floor look d D.Middle (S.Place index part) = 32
floor look d D.Middle S.Margin = 32

-- what stands on a place
abbrev pub place_ink : Checkers → ℕ → ℕ → ℕ → Ink
place_ink c place height part = stack (slice_index c.own place) (slice_index c.other place) height part

-- what stands in a column of a row: also on the bar, the player's above, on the side of its entry, the opponent's below
abbrev pub ink_at : PositionValue → Drawn → Strip → Ink
ink_at p (D.Layer h height) (S.Place index part) = place_ink p.standing.checkers (place_of h index) height part
ink_at p (D.Layer half.Upper height) (S.Bar part) = stack (slice_index p.standing.checkers.own 25) 0 height part
ink_at p (D.Layer half.Lower height) (S.Bar part) = stack 0 (slice_index p.standing.checkers.other 0) height part
ink_at p (D.Layer h height) S.Wall = I.Blank
ink_at p (D.Layer h height) S.Margin = I.Blank
ink_at p (D.Edge h) strip = I.Blank
ink_at p D.Middle strip = I.Blank

-- the byte in a column of a row
abbrev pub byte_at : Look → PositionValue → Drawn → Strip → ℕ
byte_at look p drawn strip = byte_of look (floor look p.direction drawn strip) (ink_at p drawn strip)

-- ---- marks

-- of what stands on a place
abbrev pub place_mark : Ink → ℕ → ℕ → ℕ → Mark
place_mark I.Blank come there height = M.Plain
place_mark I.Own come there height = M.Own
place_mark I.Other come there height = if is_arrived come there height then M.Arrived else M.Plain
place_mark (I.Digit n) come there height = if is_arrived come there height then M.Arrived else M.Plain

-- and on the bar
abbrev pub bar_mark : Ink → Mark
bar_mark I.Blank = M.Plain
bar_mark I.Own = M.Own
bar_mark I.Other = M.Plain
bar_mark (I.Digit n) = M.Plain

-- by how many of the opponent's checkers have come to each place
abbrev pub mark_on : PositionValue → List ℕ → Drawn → Strip → Mark
mark_on p arrivals (D.Layer h height) (S.Place index part) =
    let place = place_of h index in let c = p.standing.checkers in
    place_mark (place_ink c place height part) (slice_index arrivals place) (slice_index c.other place) height
mark_on p arrivals (D.Layer h height) (S.Bar part) = bar_mark (ink_at p (D.Layer h height) (S.Bar part))
mark_on p arrivals (D.Layer h height) S.Wall = M.Plain
mark_on p arrivals (D.Layer h height) S.Margin = M.Plain
mark_on p arrivals (D.Edge h) strip = M.Plain
mark_on p arrivals D.Middle strip = M.Plain

-- on a terminal that marks
abbrev pub mark_at : Look → PositionValue → List ℕ → Drawn → Strip → Mark
mark_at look p arrivals drawn strip = if look.is_marked then mark_on p arrivals drawn strip else M.Plain

-- ---- rows

-- what is written at a column: nothing if it is left out
unfoldable pub drawn_column : Look → PositionValue → List ℕ → Drawn → ℕ → List ℕ
drawn_column look p arrivals drawn n =
    if is_left_out look.columns n then []
    else marked (mark_at look p arrivals drawn (strip_at n)) (byte_at look p drawn (strip_at n))

-- a row of a board, as it is written
abbrev pub board_row : Look → PositionValue → List ℕ → Drawn → List ℕ
board_row look p arrivals drawn = flat_map (drawn_column look p arrivals drawn) (range_with_len 0
    (board_width look.columns))

-- and as the eye sees it
unfoldable pub seen_column : Look → PositionValue → Drawn → ℕ → List ℕ
seen_column look p drawn n =
    if is_left_out look.columns n then [] else byte_at look p drawn (strip_at n) ∷ []

-- a row as the eye sees it
abbrev pub seen_row : Look → PositionValue → Drawn → List ℕ
seen_row look p drawn = flat_map (seen_column look p drawn) (range_with_len 0 (board_width look.columns))
