-- The picture tells its board.
use Rattle.std.proofs.Common.{◌≡◌, ◌-◌, ◌++◌, ℕ, Bool, true, false, cond, List, [], ◌∷◌, refl, sym, ◌∙◌, ap, append_assoc, lit<, codes}
use Rattle.std.specs.Prelude.{pos, reverse}
use Rattle.std.specs.List.{flat_map}
use Rattle.std.specs.Ordering.{int_eq}
use Rattle.fibs_fields.specs.Board.{BoardFields, field_of}
use Rattle.fibs_fields.specs.FieldRanges.{FieldRanges}
use Rattle.fibs_fields.specs.FieldReading.{natural}
use Rattle.fibs_position.specs.OwnView.{turn, colour}
use Rattle.fibs_position.specs.PositionValue.{position_of}
use Rattle.fibs_picture.specs.Below.{words_below}
use Rattle.fibs_picture.specs.Cell.{seen_row}
use Rattle.fibs_picture.specs.Look.{HasLetters}
use Rattle.fibs_picture.specs.Notes.{spaced, note, doublers}
use Rattle.fibs_picture.specs.Picture.{is_one}
use Rattle.fibs_picture.specs.Rows.{AlikeRows}
use Rattle.fibs_picture.specs.Strip.{is_below}
use Rattle.fibs_picture.specs.Tells.{IsSeen, AlikeNotes, FactsTell, PictureTells}
use Rattle.fibs_picture.specs.Whole.{rows, rows_of, beside, seen_beside, lower_words, deed_row, seen_picture}
use Rattle.fibs_picture.specs.declared.cell.Drawn.{Drawn}
use Rattle.fibs_picture.specs.declared.cell.Half.TheVariants as half
use Rattle.fibs_picture.specs.declared.look.Look.{Look}
use Rattle.fibs_picture.specs.declared.mark.Mark.TheVariants as M
use Rattle.fibs_picture.specs.declared.notes.Note.{Note}
use Rattle.fibs_picture.specs.declared.notes.Note.TheVariants as T
use Rattle.fibs_picture.proofs.PictureLemmas.Below.{below-tells}
use Rattle.fibs_picture.proofs.PictureLemmas.Board.{row-ends, cells-tell}
use Rattle.fibs_picture.proofs.PictureLemmas.Deed.{deed-tells}
use Rattle.fibs_picture.proofs.PictureLemmas.Facts.{lettered-tells, count-tells, dice-tell, match-tells, cube-tells, doublers-tell, turn-tells, flag-tells}
use Rattle.fibs_picture.proofs.PictureLemmas.Ranges.{ranges-of, view-same, pair-same, four-same}
use Rattle.fibs_picture.proofs.PictureLemmas.Solid.{row-cond, note-row}
use Rattle.fibs_picture.proofs.PictureLemmas.Words.{is_row, words-tell}

-- ---- facts

-- boards with the same cells and the same words
pub facts-tell : FieldRanges → FactsTell
unfolding note
facts-tell f look watched a b h sa sb cells words =
    let r = ranges-of f a sa.board in
    let s = ranges-of f b sb.board in
    let board = cells-tell f look a b h sa.board sb.board cells in
    let below = is_below look.columns in
    let own_off = count-tells below (codes "off") ([] ∷ [] ∷ []) 15 (field_of a 46) (field_of b 46) (lit< tt)
    r.own_off_is s.own_off_is (words (T.Off half.Lower)) in
    let other_off = count-tells below (codes "off") ([] ∷ [] ∷ []) 15 (field_of a 47) (field_of b 47) (lit< tt)
    r.other_off_is s.other_off_is (words (T.Off half.Upper)) in
    let own_dice = dice-tell below (field_of a 34) (field_of a 35) (field_of b 34) (field_of b 35)
    r.die_1 r.die_2 s.die_1 s.die_2 (words (T.Dice half.Lower)) in
    let other_dice = dice-tell below (field_of a 36) (field_of a 37) (field_of b 36) (field_of b 37)
    r.die_3 r.die_4 s.die_3 s.die_4 (words (T.Dice half.Upper)) in
    let cube = cube-tells (field_of a 38) (field_of b 38) _ _ r.cube_is s.cube_is (words T.Cube) in
    let may = doublers-tell look h watched a b _ _ (is_one a 39) (is_one a 40) (is_one b 39) (is_one b 40) cube.1 in
    record {
      arrangement = view-same a b board.own board.other (ap natural own_off) (ap natural other_off);
      direction = board.direction;
      turn = turn-tells look h watched a b (int_eq (turn a) (pos 0)) (int_eq (turn a) (colour a))
          (int_eq (turn b) (pos 0)) (int_eq (turn b) (colour b)) (words T.Turn);
      dice = four-same _ _ _ _ _ _ _ _ own_dice.0 own_dice.1 other_dice.0 other_dice.1;
      cube = cube.0;
      doublers = pair-same _ _ _ _ (flag-tells (field_of a 39) (field_of b 39) r.flag_1 s.flag_1 may.0)
          (flag-tells (field_of a 40) (field_of b 40) r.flag_2 s.flag_2 may.1);
      scores = pair-same _ _ _ _
          (count-tells below (codes "score") [] 99999999 (field_of a 5) (field_of b 5) (lit< tt)
          r.own_score s.own_score (words (T.Score half.Lower)))
          (count-tells below (codes "score") [] 99999999 (field_of a 6) (field_of b 6) (lit< tt)
          r.other_score s.other_score (words (T.Score half.Upper)));
      match_length = match-tells (field_of a 4) (field_of b 4) r.length_of s.length_of (words T.Length);
      player = lettered-tells look.own _ _ (words (T.Name half.Lower));
      opponent = lettered-tells look.other _ _ (words (T.Name half.Upper));
    }

-- ---- rows

-- rows and the words beside them are the same
abbrev AlikeAll : Look → Bool → BoardFields → BoardFields → List (Drawn × Note) → Type 0
AlikeAll look watched a b [] = Unit {0}
AlikeAll look watched a b (r ∷ rs) =
    (seen_row look (position_of a) r.0 ≡ seen_row look (position_of b) r.0)
    × (beside look watched a (position_of a) M.Plain r.1 ≡ beside look watched b (position_of b) M.Plain r.1)
    × AlikeAll look watched a b rs

-- the words beside all rows are the same
abbrev AlikeBeside : Look → Bool → BoardFields → BoardFields → Type 0
AlikeBeside look watched a b = (n : Note)
    → beside look watched a (position_of a) M.Plain n ≡ beside look watched b (position_of b) M.Plain n

-- the words beside a row are a row
pub beside-row : FieldRanges → (look : Look) → HasLetters look → (watched : Bool) (b : BoardFields) → IsSeen b
    → (n : Note)
    → is_row (beside look watched b (position_of b) M.Plain n) ≡ true
beside-row f look h watched b s n =
    row-cond (is_below look.columns) ([] ∷ []) (note look watched b (position_of b) M.Plain n) refl
    (note-row look h watched b s (ranges-of f b s.board) n)

-- a row with what follows it
row-parts : (look : Look) (watched : Bool) (b : BoardFields) (r : Drawn × Note) (u : List ℕ)
    → seen_beside look watched b r ++ u ≡ seen_row look (position_of b) r.0
    ++ (spaced (beside look watched b (position_of b) M.Plain r.1) ++ (10 ∷ u))
unfolding seen_beside
row-parts look watched b r u =
    let words = spaced (beside look watched b (position_of b) M.Plain r.1) in
    append_assoc (seen_row look (position_of b) r.0) (words ++ 10 ∷ []) u
    ∙ ap (λ t. seen_row look (position_of b) r.0 ++ t) (append_assoc words (10 ∷ []) u)

-- equal texts have equal rows, and the same follows
rows-tell : FieldRanges → (look : Look) → HasLetters look → (watched : Bool) (a b : BoardFields) → IsSeen a → IsSeen b
    → (rs : List (Drawn × Note)) (u v : List ℕ)
    → flat_map (seen_beside look watched a) rs ++ u ≡ flat_map (seen_beside look watched b) rs ++ v
    → AlikeAll look watched a b rs × (u ≡ v)
rows-tell f look h watched a b sa sb [] u v e = (tt, e)
rows-tell f look h watched a b sa sb (r ∷ rs) u v e =
    let fa = flat_map (seen_beside look watched a) rs ++ u in
    let fb = flat_map (seen_beside look watched b) rs ++ v in
    let left = append_assoc (seen_beside look watched a r) (flat_map (seen_beside look watched a) rs) u
    ∙ row-parts look watched a r fa in
    let right = append_assoc (seen_beside look watched b r) (flat_map (seen_beside look watched b) rs) v
    ∙ row-parts look watched b r fb in
    let drawn = row-ends look (position_of a) (position_of b) r.0 _ _ (sym left ∙ e ∙ right) in
    let said = words-tell (beside look watched a (position_of a) M.Plain r.1) (beside look watched b (position_of b)
    M.Plain r.1)
    fa fb (beside-row f look h watched a sa r.1) (beside-row f look h watched b sb r.1) drawn.1 in
    let rest = rows-tell f look h watched a b sa sb rs u v said.1 in
    ((drawn.0, said.0, rest.0), rest.1)

-- with the player's home below
rows-below : (look : Look) (watched : Bool) (a b : BoardFields) → AlikeAll look watched a b (rows) → AlikeRows look a b
rows-below look watched a b t = record {
  upper = record { first = t.2.0; second = t.2.2.0; third = t.2.2.2.0; fourth = t.2.2.2.2.0; fifth = t.2.2.2.2.2.0 };
  lower = record {
    first = t.2.2.2.2.2.2.2.2.2.2.2.0;
    second = t.2.2.2.2.2.2.2.2.2.2.0;
    third =
        t.2.2.2.2.2.2.2.2.2.0;
    fourth = t.2.2.2.2.2.2.2.2.0;
    fifth = t.2.2.2.2.2.2.2.0;
  };
  edge = t.2.2.2.2.2.2.2.2.2.2.2.2.0;
}

-- the words beside them
notes-below : (look : Look) (watched : Bool) (a b : BoardFields) → AlikeAll look watched a b (rows)
    → AlikeBeside look watched a b
notes-below look watched a b t (T.Name half.Upper) = t.1
notes-below look watched a b t (T.Score half.Upper) = t.2.1
notes-below look watched a b t (T.Off half.Upper) = t.2.2.1
notes-below look watched a b t (T.Pips half.Upper) = t.2.2.2.1
notes-below look watched a b t (T.Dice half.Upper) = t.2.2.2.2.1
notes-below look watched a b t T.Length = t.2.2.2.2.2.1
notes-below look watched a b t T.Cube = t.2.2.2.2.2.2.1
notes-below look watched a b t T.Turn = t.2.2.2.2.2.2.2.1
notes-below look watched a b t (T.Dice half.Lower) = t.2.2.2.2.2.2.2.2.1
notes-below look watched a b t (T.Pips half.Lower) = t.2.2.2.2.2.2.2.2.2.1
notes-below look watched a b t (T.Off half.Lower) = t.2.2.2.2.2.2.2.2.2.2.1
notes-below look watched a b t (T.Score half.Lower) = t.2.2.2.2.2.2.2.2.2.2.2.1
notes-below look watched a b t (T.Name half.Lower) = t.2.2.2.2.2.2.2.2.2.2.2.2.1

-- with the player's home above
rows-above : (look : Look) (watched : Bool) (a b : BoardFields) → AlikeAll look watched a b (reverse rows)
    → AlikeRows look a b
rows-above look watched a b t = record {
  upper = record {
    first = t.2.2.2.2.2.2.2.2.2.2.2.0;
    second = t.2.2.2.2.2.2.2.2.2.2.0;
    third =
        t.2.2.2.2.2.2.2.2.2.0;
    fourth = t.2.2.2.2.2.2.2.2.0;
    fifth = t.2.2.2.2.2.2.2.0;
  };
  lower = record { first = t.2.0; second = t.2.2.0; third = t.2.2.2.0; fourth = t.2.2.2.2.0; fifth = t.2.2.2.2.2.0 };
  edge = t.0;
}

-- the words beside them
notes-above : (look : Look) (watched : Bool) (a b : BoardFields) → AlikeAll look watched a b (reverse rows)
    → AlikeBeside look watched a b
notes-above look watched a b t (T.Name half.Upper) = t.2.2.2.2.2.2.2.2.2.2.2.2.1
notes-above look watched a b t (T.Score half.Upper) = t.2.2.2.2.2.2.2.2.2.2.2.1
notes-above look watched a b t (T.Off half.Upper) = t.2.2.2.2.2.2.2.2.2.2.1
notes-above look watched a b t (T.Pips half.Upper) = t.2.2.2.2.2.2.2.2.2.1
notes-above look watched a b t (T.Dice half.Upper) = t.2.2.2.2.2.2.2.2.1
notes-above look watched a b t T.Length = t.2.2.2.2.2.2.2.1
notes-above look watched a b t T.Cube = t.2.2.2.2.2.2.1
notes-above look watched a b t T.Turn = t.2.2.2.2.2.1
notes-above look watched a b t (T.Dice half.Lower) = t.2.2.2.2.1
notes-above look watched a b t (T.Pips half.Lower) = t.2.2.2.1
notes-above look watched a b t (T.Off half.Lower) = t.2.2.1
notes-above look watched a b t (T.Score half.Lower) = t.2.1
notes-above look watched a b t (T.Name half.Lower) = t.1

-- whichever side is above
rows-alike : (look : Look) (watched : Bool) (a b : BoardFields) (turned : Bool)
    → AlikeAll look watched a b (rows_of turned) → AlikeRows look a b × AlikeBeside look watched a b
rows-alike look watched a b true t = (rows-above look watched a b t, notes-above look watched a b t)
rows-alike look watched a b false t = (rows-below look watched a b t, notes-below look watched a b t)

-- ---- below the board

-- of two choices that are made alike
left-same : (c : Bool) (w x y : List (List ℕ)) → c ≡ false → cond c w x ≡ cond c w y → x ≡ y
left-same true w x y h e = cc
left-same false w x y h e = e

-- the words are beside the board, or below it
lower-tells : FieldRanges → (look : Look) → HasLetters look → (watched : Bool) (a b : BoardFields) → IsSeen a → IsSeen b
    → AlikeBeside look watched a b → (below : Bool) → is_below look.columns ≡ below → (u v : List ℕ)
    → cond below (words_below look watched a (position_of a)) [] ++ u
    ≡ cond below (words_below look watched b (position_of b)) [] ++ v
    → AlikeNotes look watched a b × (u ≡ v)
lower-tells f look h watched a b sa sb alike true k u v e = below-tells f look h watched a b sa sb u v e
lower-tells f look h watched a b sa sb alike false k u v e = (
  λ n. left-same (is_below look.columns) ([] ∷ []) (note look watched a (position_of a) M.Plain n)
      (note look watched b (position_of b) M.Plain n) k (alike n),
  e,
)

-- ---- the picture

-- so boards look the same that the eye sees alike
pub picture-tells : FieldRanges → PictureTells
unfolding seen_picture
picture-tells f look watched wanted a b h sa sb e =
    let da = deed_row look watched wanted (position_of a) in
    let db = deed_row look watched wanted (position_of b) in
    let t = rows-tell f look h watched a b sa sb (rows_of look.is_turned) (lower_words look watched a (position_of a)
    ++ da)
    (lower_words look watched b (position_of b) ++ db) e in
    let alike = rows-alike look watched a b look.is_turned t.0 in
    let s = lower-tells f look h watched a b sa sb alike.1 (is_below look.columns) refl da db t.1 in
    let deed = deed-tells look watched wanted (position_of a) (position_of b) s.1 in
    (facts-tell f look watched a b h sa sb alike.0 s.0, record { phase = deed.phase; passing = deed.passing })
