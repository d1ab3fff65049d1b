-- A picture fits its terminal.
use Rattle.std.proofs.Common.{◌≡◌, ◌⊎◌, ◌<◌, ◌≤◌, ◌+◌, ◌-◌, ◌&&◌, ◌||◌, ◌++◌, ℕ, Bool, true, false, cond, not, List, [], ◌∷◌, length, refl, sym, ◌∙◌, ap, arith, lit≤, map, nat_lt, nat_le, append-nil, append_assoc, inl, inr}
use Rattle.std.specs.List.{flat_map, AllByRecursion}
use Rattle.std.proofs.lemmas.Bool.Decides.{nat_tests}
use Rattle.std.proofs.lemmas.List.{length-append}
use Rattle.std.proofs.lemmas.List.Concat.{flat_map-append}
use Rattle.fibs_fields.specs.Board.{BoardFields}
use Rattle.fibs_fields.specs.FieldRanges.{FieldRanges}
use Rattle.fibs_position.specs.DecisionValue.{accept, double}
use Rattle.fibs_position.specs.Phases.{phase_in}
use Rattle.fibs_position.specs.PositionValue.{PositionValue, position_of}
use Rattle.fibs_position.specs.declared.phase.Phase.{Phase}
use Rattle.fibs_position.specs.declared.phase.Phase.TheVariants as phase
use Rattle.fibs_picture.specs.Below.{is_full, facts_behind, facts_from, told, side_facts, match_facts, half_above, half_below, words_below}
use Rattle.fibs_picture.specs.Cell.{seen_row}
use Rattle.fibs_picture.specs.Fits.{Fits, ended, PictureFits}
use Rattle.fibs_picture.specs.Look.{HasLetters}
use Rattle.fibs_picture.specs.Notes.{spaced, room, note}
use Rattle.fibs_picture.specs.Picture.{deed, deed_in, may}
use Rattle.fibs_picture.specs.Strip.{is_below}
use Rattle.fibs_picture.specs.Tells.{IsSeen}
use Rattle.fibs_picture.specs.Whole.{rows_of, beside, seen_beside, lower_words, is_passing, has_deed, deed_row, seen_picture}
use Rattle.fibs_picture.specs.declared.cell.Drawn.{Drawn}
use Rattle.fibs_picture.specs.declared.cell.Half.{Half}
use Rattle.fibs_picture.specs.declared.look.Look.{Look}
use Rattle.fibs_picture.specs.declared.mark.Mark.TheVariants as M
use Rattle.fibs_picture.specs.declared.notes.Note.{Note}
use Rattle.fibs_picture.specs.declared.notes.Note.TheVariants as T
use Rattle.fibs_picture.proofs.PictureLemmas.Ranges.{ranges-of}
use Rattle.fibs_picture.proofs.PictureLemmas.Solid.{note-row}
use Rattle.fibs_picture.proofs.PictureLemmas.Widths.{printed, printed-append, row-printed, wide-row, narrow-row, few-checkers, board-printed, room-is, beside-fits, note-width}

-- ---- rows of the board

-- a row without its end
abbrev row_text : Look → Bool → BoardFields → Drawn × Note → List ℕ
row_text look watched b row =
    seen_row look (position_of b) row.0 ++ spaced (beside look watched b (position_of b) M.Plain row.1)

-- with it
row-ended : (look : Look) (watched : Bool) (b : BoardFields) (row : Drawn × Note)
    → seen_beside look watched b row ≡ ended (row_text look watched b row)
unfolding seen_beside
row-ended look watched b row = sym (append_assoc (seen_row look (position_of b) row.0)
    (spaced (beside look watched b (position_of b) M.Plain row.1)) (10 ∷ []))

-- all rows
rows-ended : (look : Look) (watched : Bool) (b : BoardFields) (rows : List (Drawn × Note))
    → flat_map (seen_beside look watched b) rows ≡ flat_map ended (map (row_text look watched b) rows)
rows-ended look watched b [] = refl
rows-ended look watched b (row ∷ rows) = rw (row-ended look watched b row, rows-ended look watched b rows) refl

-- the board alone fits, or has room for a fact
side-fits : FieldRanges → (look : Look) → HasLetters look → (watched : Bool) (b : BoardFields) → IsSeen b
    → 40 ≤ look.columns → (drawn : Drawn) (n : Note) (low : Bool) → is_below look.columns ≡ low
    → Fits look.columns (seen_row look (position_of b) drawn
    ++ spaced (cond low ([] ∷ []) (note look watched b (position_of b) M.Plain n)))
side-fits f look h watched b s least drawn n true k =
    let row = seen_row look (position_of b) drawn in (
      omega (arith, length-append row [], narrow-row look (position_of b) drawn k least),
      omega (arith, length-append row [], wide-row look (position_of b) drawn),
      printed-append row [] (board-printed look h (position_of b) (few-checkers b s) drawn) refl,
    )
side-fits f look h watched b s least drawn n false k =
    let row = seen_row look (position_of b) drawn in
    let words = note look watched b (position_of b) M.Plain n in
    let r = ranges-of f b s.board in
    let wide = wide-row look (position_of b) drawn in
    let brief = note-width look watched b s r n in
    let most = beside-fits look.columns k in (
      omega (arith, length-append row (spaced words), wide, brief, most.0),
      omega (arith, length-append row (spaced words), wide, brief, most.1),
      printed-append row (spaced words) (board-printed look h (position_of b) (few-checkers b s) drawn)
          (row-printed words (note-row look h watched b s r n)),
    )

-- all rows fit
rows-fit : FieldRanges → (look : Look) → HasLetters look → (watched : Bool) (b : BoardFields) → IsSeen b
    → 40 ≤ look.columns → (rows : List (Drawn × Note))
    → AllByRecursion (Fits look.columns) (map (row_text look watched b) rows)
rows-fit f look h watched b s least [] = tt
rows-fit f look h watched b s least (row ∷ rows) = (
  side-fits f look h watched b s least row.0 row.1 (is_below look.columns) refl,
  rows-fit f look h watched b s least rows,
)

-- ---- facts in rows

-- the rows of some facts behind a row that ends at a column
lines_behind : ℕ → ℕ → List ℕ → List (List ℕ) → List (List ℕ)
lines_behind columns column row [] = row ∷ []
lines_behind columns column row (fact ∷ facts) =
    cond (is_full columns column fact) ((row ++ 44 ∷ []) ∷ lines_behind columns (length fact) fact facts)
    (lines_behind columns (column + (2 + length fact)) (row ++ (44 ∷ 32 ∷ fact)) facts)

-- in the same row, or in the next one
split-ended : (full : Bool) (row fact t u : List ℕ) (xs ys : List (List ℕ)) → fact ++ t ≡ flat_map ended xs
    → (row ++ (44 ∷ 32 ∷ fact)) ++ u ≡ flat_map ended ys
    → row ++ ((44 ∷ cond full 10 32 ∷ fact) ++ cond full t u) ≡ flat_map ended (cond full ((row ++ 44 ∷ []) ∷ xs) ys)
split-ended true row fact t u xs ys h k =
    ap (λ r. row ++ (44 ∷ 10 ∷ r)) h
    ∙ sym (append_assoc (row ++ 44 ∷ []) (10 ∷ []) (flat_map ended xs)
    ∙ append_assoc row (44 ∷ []) (10 ∷ flat_map ended xs))
split-ended false row fact t u xs ys h k = sym (append_assoc row (44 ∷ 32 ∷ fact) u) ∙ k

-- a choice of two columns
behind-choice : (full : Bool) (columns m n : ℕ) (facts : List (List ℕ))
    → facts_behind columns (cond full m n) facts ≡ cond full (facts_behind columns m facts)
    (facts_behind columns n facts)
behind-choice true columns m n facts = refl
behind-choice false columns m n facts = refl

-- some facts are rows
behind-ended : (columns column : ℕ) (row : List ℕ) (facts : List (List ℕ))
    → row ++ facts_behind columns column facts ≡ flat_map ended (lines_behind columns column row facts)
unfolding lines_behind
behind-ended columns column row [] = sym (append-nil (row ++ 10 ∷ []))
behind-ended columns column row (fact ∷ facts) =
    let full = is_full columns column fact in
    let t = facts_behind columns (length fact) facts in
    let u = facts_behind columns (column + (2 + length fact)) facts in
    ap (λ r. row ++ ((44 ∷ cond full 10 32 ∷ fact) ++ r))
    (behind-choice full columns (length fact) (column + (2 + length fact)) facts)
    ∙ split-ended full row fact t u (lines_behind columns (length fact) fact facts)
    (lines_behind columns (column + (2 + length fact)) (row ++ (44 ∷ 32 ∷ fact)) facts)
    (behind-ended columns (length fact) fact facts)
    (behind-ended columns (column + (2 + length fact)) (row ++ (44 ∷ 32 ∷ fact)) facts)

-- a fact is brief
abbrev IsBrief : List ℕ → Type 0
IsBrief text = (length text ≤ 32) × (printed text ≡ true)

-- there is room behind a row
has-room : (columns column n : ℕ) → nat_lt (columns - column) (3 + n) ≡ false → column + (2 + n) + 1 ≤ columns
has-room columns column n h = let enough : 3 + n ≤ columns - column = grind (arith, nat_tests) in omega (arith, enough)

-- one of two ways to go on
split-fits : (columns column : ℕ) (row : List ℕ) (xs ys : List (List ℕ)) (full : Bool) → length row ≡ column
    → column + 1 ≤ columns → columns ≤ 79 → printed row ≡ true
    → AllByRecursion (Fits columns) xs → (full ≡ false → AllByRecursion (Fits columns) ys)
    → AllByRecursion (Fits columns) (cond full ((row ++ 44 ∷ []) ∷ xs) ys)
split-fits columns column row xs ys true l m most p h k = (
  (
    omega (arith, l, m, length-append row (44 ∷ [])),
    omega (arith, l, m, most, length-append row (44 ∷ [])),
    printed-append row (44 ∷ []) p refl,
  ),
  h,
)
split-fits columns column row xs ys false l m most p h k = k refl

-- each of these rows fits
lines-fit : (columns column : ℕ) (row : List ℕ) (facts : List (List ℕ)) → length row ≡ column → column + 1 ≤ columns
    → 40 ≤ columns → columns ≤ 79 → printed row ≡ true → AllByRecursion IsBrief facts
    → AllByRecursion (Fits columns) (lines_behind columns column row facts)
unfolding lines_behind
lines-fit columns column row [] l m least most p all = ((omega (arith, l, m), omega (arith, l, m, most), p), tt)
lines-fit columns column row (fact ∷ facts) l m least most p all =
    let brief = all.0 in
    let next = row ++ (44 ∷ 32 ∷ fact) in
    split-fits columns column row (lines_behind columns (length fact) fact facts)
    (lines_behind columns (column + (2 + length fact)) next facts) (is_full columns column fact) l m most p
    (lines-fit columns (length fact) fact facts refl (omega (arith, brief.0, least)) least most brief.1 all.1)
    (λ h. lines-fit columns (column + (2 + length fact)) next facts
    (omega (arith, l, length-append row (44 ∷ 32 ∷ fact))) (has-room columns column (length fact) h) least most
    (printed-append row (44 ∷ 32 ∷ fact) p brief.1) all.1)

-- ---- the groups

-- a fact of a board is
told-brief : FieldRanges → (look : Look) → HasLetters look → (watched : Bool) (b : BoardFields) → IsSeen b → (n : Note)
    → IsBrief (told look watched b (position_of b) n)
unfolding told
told-brief f look h watched b s n =
    let r = ranges-of f b s.board in
    let words = note look watched b (position_of b) M.Plain n in
    let most = note-width look watched b s r n in
    (omega (arith, most, (room-is look.columns).1), row-printed words (note-row look h watched b s r n))

-- all facts are
all-brief : FieldRanges → (look : Look) → HasLetters look → (watched : Bool) (b : BoardFields) → IsSeen b
    → (ns : List Note) → AllByRecursion IsBrief (map (told look watched b (position_of b)) ns)
all-brief f look h watched b s [] = tt
all-brief f look h watched b s (n ∷ ns) =
    (told-brief f look h watched b s n, all-brief f look h watched b s ns)

-- a text is rows that fit
abbrev IsRows : ℕ → List ℕ → Type 0
IsRows columns text = (lines : List (List ℕ)) × AllByRecursion (Fits columns) lines × (text ≡ flat_map ended lines)

-- two lists of rows that fit
all-append : (columns : ℕ) (xs ys : List (List ℕ)) → AllByRecursion (Fits columns) xs → AllByRecursion (Fits columns) ys
    → AllByRecursion (Fits columns) (xs ++ ys)
all-append columns [] ys h k = k
all-append columns (x ∷ xs) ys h k = (h.0, all-append columns xs ys h.1 k)

-- two texts of rows
both : (columns : ℕ) (t u : List ℕ) → IsRows columns t → IsRows columns u → IsRows columns (t ++ u)
both columns t u h k = (
  h.0 ++ k.0,
  all-append columns h.0 k.0 h.1 k.1,
  ap (λ r. r ++ u) h.2 ∙ ap (λ r. flat_map ended h.0 ++ r) k.2 ∙ sym (flat_map-append ended h.0 k.0),
)

-- a group is
group-fits : FieldRanges → (look : Look) → HasLetters look → (watched : Bool) (b : BoardFields) → IsSeen b
    → 40 ≤ look.columns → look.columns ≤ 79 → (n : Note) (ns : List Note)
    → IsRows look.columns (facts_from look.columns (told look watched b (position_of b) n)
    (map (told look watched b (position_of b)) ns))
group-fits f look h watched b s least most n ns =
    let fact = told look watched b (position_of b) n in
    let facts = map (told look watched b (position_of b)) ns in
    let brief = told-brief f look h watched b s n in (
      lines_behind look.columns (length fact) fact facts,
      lines-fit look.columns (length fact) fact facts refl (omega (arith, brief.0, least)) least most brief.1
          (all-brief f look h watched b s ns),
      behind-ended look.columns (length fact) fact facts,
    )

-- so are all
below-fits : FieldRanges → (look : Look) → HasLetters look → (watched : Bool) (b : BoardFields) → IsSeen b
    → 40 ≤ look.columns → look.columns ≤ 79 → IsRows look.columns (words_below look watched b (position_of b))
unfolding words_below
below-fits f look h watched b s least most =
    let p = position_of b in
    let side : (x : Half) → IsRows look.columns (side_facts look watched b p x) = λ x.
    group-fits f look h watched b s least most (T.Name x) (T.Score x ∷ T.Off x ∷ T.Pips x ∷ T.Dice x ∷ []) in
    let m = group-fits f look h watched b s least most T.Length (T.Cube ∷ T.Turn ∷ []) in
    both look.columns (side_facts look watched b p (half_above look.is_turned))
    (match_facts look watched b p ++ side_facts look watched b p (half_below look.is_turned))
    (side (half_above look.is_turned))
    (both look.columns (match_facts look watched b p) (side_facts look watched b p (half_below look.is_turned)) m
    (side (half_below look.is_turned)))

-- if they stand there
lower-fits : FieldRanges → (look : Look) → HasLetters look → (watched : Bool) (b : BoardFields) → IsSeen b
    → 40 ≤ look.columns → (low : Bool) → is_below look.columns ≡ low
    → IsRows look.columns (cond low (words_below look watched b (position_of b)) [])
lower-fits f look h watched b s least true k =
    let most : look.columns < 72 = grind (arith, nat_tests) in below-fits f look h watched b s least (omega
    (arith, most))
lower-fits f look h watched b s least false k = ([], tt, refl)

-- ---- what can be done

-- it is short
deed-size : (p : Phase) (accepts doubles : Bool)
    → (length (32 ∷ deed p accepts doubles) ≤ 46) × (printed (32 ∷ deed p accepts doubles) ≡ true)
deed-size phase.Over accepts doubles = (lit≤ tt, refl)
deed-size phase.AnswerDouble true doubles = (lit≤ tt, refl)
deed-size phase.AnswerDouble false doubles = (lit≤ tt, refl)
deed-size phase.OpponentActs accepts doubles = (lit≤ tt, refl)
deed-size phase.RollOrDouble accepts true = (lit≤ tt, refl)
deed-size phase.RollOrDouble accepts false = (lit≤ tt, refl)
deed-size phase.Move accepts doubles = (lit≤ tt, refl)
deed-size phase.Passing accepts doubles = (lit≤ tt, refl)

-- that one can't move is shorter
passing-size : (p : Phase) (accepts doubles : Bool) → is_passing p ≡ true → length (32 ∷ deed p accepts doubles) ≤ 40
passing-size phase.Over accepts doubles h = cc
passing-size phase.AnswerDouble accepts doubles h = cc
passing-size phase.OpponentActs accepts doubles h = cc
passing-size phase.RollOrDouble accepts doubles h = cc
passing-size phase.Move accepts doubles h = cc
passing-size phase.Passing accepts doubles h = lit≤ tt

-- it is there if there is room, or one can't move
why-there : (watched room passing : Bool) → (not watched && (room || passing)) ≡ true → (room ≡ true) ⊎ (passing ≡ true)
why-there true room passing h = cc
why-there false true passing h = inl refl
why-there false false passing h = inr h

-- there is room only on a wide terminal
wanted-wide : (wanted : Bool) (columns : ℕ) → (wanted && nat_le 79 columns) ≡ true → 79 ≤ columns
wanted-wide true columns h = grind (arith, nat_tests)
wanted-wide false columns h = cc

-- so it fits
deed-fits : (columns : ℕ) (wanted : Bool) (p : Phase) (accepts doubles : Bool) → 40 ≤ columns
    → ((wanted && nat_le 79 columns) ≡ true) ⊎ (is_passing p ≡ true) → Fits columns (32 ∷ deed p accepts doubles)
deed-fits columns wanted p accepts doubles least (inl h) =
    let size = deed-size p accepts doubles in
    let wide = wanted-wide wanted columns h in
    (omega (arith, wide, size.0), omega (arith, size.0), size.1)
deed-fits columns wanted p accepts doubles least (inr h) =
    let size = deed-size p accepts doubles in
    let short = passing-size p accepts doubles h in
    (omega (arith, least, short), omega (arith, size.0), size.1)

-- the row fits, if it is there
deed_row-fits : (look : Look) (watched wanted : Bool) (p : PositionValue) (there : Bool) → 40 ≤ look.columns
    → has_deed look watched wanted (phase_in p) ≡ there
    → IsRows look.columns (cond there (32 ∷ (deed_in p ++ 10 ∷ [])) [])
unfolding deed_in
deed_row-fits look watched wanted p true least h =
    let text = deed (phase_in p) (may p accept) (may p double) in (
      (32 ∷ text) ∷ [],
      (
        deed-fits look.columns wanted (phase_in p) (may p accept) (may p double) least
            (why-there watched (wanted && nat_le 79 look.columns) (is_passing (phase_in p)) h),
        tt,
      ),
      sym (append-nil (32 ∷ (text ++ 10 ∷ []))),
    )
deed_row-fits look watched wanted p false least h = ([], tt, refl)

-- ---- the picture

-- from 40 columns on
pub picture-fits : FieldRanges → PictureFits
unfolding seen_picture deed_row
picture-fits f look watched wanted b h s least =
    let p = position_of b in
    both look.columns (flat_map (seen_beside look watched b) (rows_of look.is_turned))
    (lower_words look watched b p ++ deed_row look watched wanted p) (
      map (row_text look watched b) (rows_of look.is_turned),
      rows-fit f look h watched b s least
          (rows_of look.is_turned),
      rows-ended look watched b (rows_of look.is_turned),
    )
    (both look.columns (lower_words look watched b p) (deed_row look watched wanted p)
    (lower-fits f look h watched b s least (is_below look.columns) refl)
    (deed_row-fits look watched wanted p (has_deed look watched wanted (phase_in p)) least refl))
