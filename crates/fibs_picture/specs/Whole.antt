-- A whole picture: as it is written, and as the eye sees it (the project's own).
use Rattle.std.specs.Prelude.{◌-◌, ◌==◌, ◌&&◌, ◌||◌, ◌++◌, nat_lt, nat_le, ℕ, Bool, true, false, List, [], ◌∷◌, reverse, not, if◌then◌else◌}
use Rattle.std.specs.List.{flat_map, range_with_len}
use Rattle.fibs_fields.specs.Board.{BoardFields}
use Rattle.fibs_position.specs.Phases.{phase_in}
use Rattle.fibs_position.specs.PositionValue.{PositionValue, position_of}
use Rattle.fibs_position.specs.declared.phase.Phase.{Phase}
use Rattle.fibs_position.specs.declared.phase.Phase.TheVariants as phase
use Rattle.fibs_picture.specs.Below.{words_below}
use Rattle.fibs_picture.specs.Cell.{board_row, seen_row}
use Rattle.fibs_picture.specs.Notes.{spaced, note}
use Rattle.fibs_picture.specs.Picture.{deed_in}
use Rattle.fibs_picture.specs.Strip.{is_below}
use Rattle.fibs_picture.specs.declared.cell.Drawn.{Drawn}
use Rattle.fibs_picture.specs.declared.cell.Drawn.TheVariants as D
use Rattle.fibs_picture.specs.declared.cell.Half.TheVariants as half
use Rattle.fibs_picture.specs.declared.look.Look.{Look}
use Rattle.fibs_picture.specs.declared.mark.Mark.{Mark}
use Rattle.fibs_picture.specs.declared.mark.Mark.TheVariants as M
use Rattle.fibs_picture.specs.declared.notes.Note.{Note}
use Rattle.fibs_picture.specs.declared.notes.Note.TheVariants as T

-- ---- rows

-- the rows from above, and what is told beside each, with the player's home below
abbrev pub rows : List (Drawn × Note)
rows =
    (D.Edge half.Upper, T.Name half.Upper)
    ∷ (D.Layer half.Upper 1, T.Score half.Upper)
    ∷ (D.Layer half.Upper 2, T.Off half.Upper)
    ∷ (D.Layer half.Upper 3, T.Pips half.Upper)
    ∷ (D.Layer half.Upper 4, T.Dice half.Upper)
    ∷ (D.Layer half.Upper 5, T.Length)
    ∷ (D.Middle, T.Cube)
    ∷ (D.Layer half.Lower 5, T.Turn)
    ∷ (D.Layer half.Lower 4, T.Dice half.Lower)
    ∷ (D.Layer half.Lower 3, T.Pips half.Lower)
    ∷ (D.Layer half.Lower 2, T.Off half.Lower)
    ∷ (D.Layer half.Lower 1, T.Score half.Lower)
    ∷ (D.Edge half.Lower, T.Name half.Lower) ∷ []

-- or above
abbrev pub rows_of : Bool → List (Drawn × Note)
rows_of turned = if turned then reverse rows else rows

-- the words beside a row: none if they stand below the board
abbrev pub beside : Look → Bool → BoardFields → PositionValue → Mark → Note → List (List ℕ)
beside look watched b p mark n = if is_below look.columns then [] ∷ [] else note look watched b p mark n

-- the mark of the player's dice there
abbrev pub dice_mark : Look → Mark
dice_mark look = if look.is_marked then M.Own else M.Plain

-- a row, as it is written
unfoldable pub written_row : Look → Bool → BoardFields → PositionValue → List ℕ → Drawn × Note → List ℕ
written_row look watched b p arrivals row =
    board_row look p arrivals row.0 ++ (spaced (beside look watched b p (dice_mark look) row.1) ++ 10 ∷ [])

-- and as the eye sees it
unfoldable pub seen_beside : Look → Bool → BoardFields → Drawn × Note → List ℕ
seen_beside look watched b row =
    seen_row look (position_of b) row.0 ++ (spaced (beside look watched b (position_of b) M.Plain row.1) ++ 10 ∷ [])

-- the row so many from above, by the row of a picture with the player's home below
abbrev pub from_above : Bool → ℕ → ℕ
from_above turned i = if turned then 12 - i else i

-- what is drawn in it
abbrev pub drawn_at : ℕ → Drawn
drawn_at row =
    if row == 0 then D.Edge half.Upper
    else (if nat_lt row 6 then D.Layer half.Upper row
    else (if row == 6 then D.Middle
    else (if nat_lt row 12 then D.Layer half.Lower (12 - row) else D.Edge half.Lower)))

-- what is told beside it
abbrev pub note_at : ℕ → Note
note_at row =
    if row == 0 then T.Name half.Upper
    else (if row == 1 then T.Score half.Upper
    else (if row == 2 then T.Off half.Upper
    else (if row == 3 then T.Pips half.Upper
    else (if row == 4 then T.Dice half.Upper
    else (if row == 5 then T.Length
    else (if row == 6 then T.Cube
    else (if row == 7 then T.Turn
    else (if row == 8 then T.Dice half.Lower
    else (if row == 9 then T.Pips half.Lower
    else (if row == 10 then T.Off half.Lower
    else (if row == 11 then T.Score half.Lower else T.Name half.Lower)))))))))))

-- the row so many from above, as it is written
unfoldable pub written_at : Look → Bool → BoardFields → PositionValue → List ℕ → ℕ → List ℕ
written_at look watched b p arrivals i =
    let row = from_above look.is_turned i in written_row look watched b p arrivals (drawn_at row, note_at row)

-- ---- below the board

-- the words, if they stand there
abbrev pub lower_words : Look → Bool → BoardFields → PositionValue → List ℕ
lower_words look watched b p = if is_below look.columns then words_below look watched b p else []

-- the player can't move
abbrev pub is_passing : Phase → Bool
is_passing phase.Over = false
is_passing phase.AnswerDouble = false
is_passing phase.OpponentActs = false
is_passing phase.RollOrDouble = false
is_passing phase.Move = false
is_passing phase.Passing = true

-- the row that says what can be done is there, of a game of the user's own: if it is wanted and there is room, and if
-- the player can't move
abbrev pub has_deed : Look → Bool → Bool → Phase → Bool
has_deed look watched wanted phase = not watched && ((wanted && nat_le 79 look.columns) || is_passing phase)

-- the row
unfoldable pub deed_row : Look → Bool → Bool → PositionValue → List ℕ
deed_row look watched wanted p = if has_deed look watched wanted (phase_in p) then 32 ∷ (deed_in p ++ 10 ∷ []) else []

-- ---- the picture

-- as it is written, with the opponent's checkers that have come to each place
unfoldable pub written_picture : Look → Bool → Bool → BoardFields → PositionValue → List ℕ → List ℕ
written_picture look watched wanted b p arrivals =
    flat_map (written_at look watched b p arrivals) (range_with_len 0 13)
    ++ (lower_words look watched b p ++ deed_row look watched wanted p)

-- as the eye sees it
unfoldable pub seen_picture : Look → Bool → Bool → BoardFields → List ℕ
seen_picture look watched wanted b =
    flat_map (seen_beside look watched b) (rows_of look.is_turned)
    ++ (lower_words look watched b (position_of b) ++ deed_row look watched wanted (position_of b))
