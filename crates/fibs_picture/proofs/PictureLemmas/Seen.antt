-- What the eye sees of a picture.
use Rattle.std.proofs.Common.{◌≡◌, ◌<◌, ◌+◌, ◌==◌, ◌&&◌, ◌++◌, ℕ, Bool, true, false, cond, not, codes, List, [], ◌∷◌, map, refl, sym, ◌∙◌, ap, arith, append_assoc, length}
use Rattle.std.specs.Int.{is_in_range}
use Rattle.std.specs.List.{flat_map, list_all, range_with_len}
use Rattle.std.proofs.lemmas.Bool.{and_parts}
use Rattle.std.proofs.lemmas.Bool.Decides.{nat_tests}
use Rattle.std.proofs.lemmas.List.Folds.{list_all-append}
use Rattle.fibs_fields.specs.Board.{BoardFields, field_of}
use Rattle.fibs_fields.specs.FieldRanges.{FieldRanges}
use Rattle.fibs_fields.specs.FieldReading.{natural}
use Rattle.fibs_position.specs.DecisionValue.{accept, double}
use Rattle.fibs_position.specs.Phases.{phase_in}
use Rattle.fibs_position.specs.PositionValue.{PositionValue, position_of}
use Rattle.fibs_position.specs.declared.phase.Phase.{Phase}
use Rattle.fibs_position.specs.declared.phase.Phase.TheVariants as phase
use Rattle.fibs_picture.specs.Below.{is_full, ends_at, facts_behind, facts_from, told, side_facts, match_facts, half_above, half_below, words_below}
use Rattle.fibs_picture.specs.Cell.{board_row, seen_row}
use Rattle.fibs_picture.specs.Look.{HasLetters}
use Rattle.fibs_picture.specs.Marks.{seen, seen_from}
use Rattle.fibs_picture.specs.Notes.{spaced, note, labelled, two_dice, die_word, die_mark}
use Rattle.fibs_picture.specs.Picture.{deed, deed_in, may}
use Rattle.fibs_picture.specs.Strip.{is_below}
use Rattle.fibs_picture.specs.Tells.{IsSeen, PictureSeen}
use Rattle.fibs_picture.specs.Whole.{rows_of, beside, dice_mark, written_row, seen_beside, from_above, drawn_at, note_at, written_at, lower_words, has_deed, deed_row, written_picture, seen_picture}
use Rattle.fibs_picture.specs.declared.cell.Drawn.{Drawn}
use Rattle.fibs_picture.specs.declared.cell.Half.{Half}
use Rattle.fibs_picture.specs.declared.cell.Half.TheVariants as half
use Rattle.fibs_picture.specs.declared.look.Look.{Look}
use Rattle.fibs_picture.specs.declared.mark.Mark.{Mark}
use Rattle.fibs_picture.specs.declared.mark.Mark.TheVariants as M
use Rattle.fibs_picture.specs.declared.notes.Note.{Note}
use Rattle.fibs_picture.specs.declared.notes.Note.TheVariants as T
use Rattle.fibs_picture.proofs.PictureLemmas.Eye.{marked-seen, columns-seen, eye-sees}
use Rattle.fibs_picture.proofs.PictureLemmas.Ranges.{Ranges, ranges-of}
use Rattle.fibs_picture.proofs.PictureLemmas.Solid.{note-row, plain-word}
use Rattle.fibs_picture.proofs.PictureLemmas.Where.{is-not}
use Rattle.fibs_picture.proofs.PictureLemmas.Words.{all-mono, solid, is_row}

-- ---- plain texts

-- no byte of a text begins a mark
abbrev plain : List ℕ → Bool
plain text = list_all (λ x. not (x == 27)) text

-- two plain texts in a row are plain
plain-append : (xs ys : List ℕ) → plain xs ≡ true → plain ys ≡ true → plain (xs ++ ys) ≡ true
plain-append xs ys h k = rw (list_all-append (λ x. not (x == 27)) xs ys, h, k) refl

-- a choice of two plain texts is plain
plain-cond : (b : Bool) (xs ys : List ℕ) → plain xs ≡ true → plain ys ≡ true → plain (cond b xs ys) ≡ true
plain-cond true xs ys h k = h
plain-cond false xs ys h k = k

-- a plain text is seen as it is
plain-seen : (text rest : List ℕ) → plain text ≡ true → seen_from false (text ++ rest) ≡ text ++ seen_from false rest
plain-seen [] rest h = refl
plain-seen (x ∷ text) rest h =
    let parts = and_parts (not (x == 27)) (plain text) h in
    rw (is-not (x == 27) parts.0) (ap (λ t. x ∷ t) (plain-seen text rest parts.1))

-- a printed byte begins no mark
byte-plain : (x : ℕ) → is_in_range 33 126 x ≡ true → not (x == 27) ≡ true
byte-plain x h = grind (arith, nat_tests)

-- words are plain
word-plain : (w : List ℕ) → solid w ≡ true → plain w ≡ true
word-plain w h = all-mono (is_in_range 33 126) (λ x. not (x == 27)) byte-plain w h

-- and rows of them
words-plain : (ws : List (List ℕ)) → is_row ws ≡ true → plain (spaced ws) ≡ true
words-plain [] h = refl
words-plain (w ∷ []) h = word-plain w h
words-plain (w ∷ x ∷ ws) h =
    let parts = and_parts (solid w) (is_row (x ∷ ws)) h in
    plain-append w (32 ∷ spaced (x ∷ ws)) (word-plain w parts.0) (words-plain (x ∷ ws) parts.1)

-- ---- dice with marks

-- a digit begins no mark
die-plain : (die : ℕ) → 27 < 48 + die
die-plain die = omega arith

-- a die is seen without its mark
die-seen : (mark : Mark) (die : ℕ) (rest : List ℕ)
    → seen_from false (die_word mark die ++ rest) ≡ (48 + die) ∷ seen_from false rest
die-seen mark die rest = marked-seen (die_mark mark die) (48 + die) rest (die-plain die)

-- so are two, if there are any
two-seen : (none : Bool) (mark : Mark) (m n : ℕ) (rest : List ℕ)
    → seen_from false (spaced (cond none ((45 ∷ []) ∷ []) (die_word mark m ∷ die_word mark n ∷ [])) ++ rest)
    ≡ spaced (cond none ((45 ∷ []) ∷ []) (((48 + m) ∷ []) ∷ ((48 + n) ∷ []) ∷ [])) ++ seen_from false rest
two-seen true mark m n rest = refl
two-seen false mark m n rest =
    ap (seen_from false) (append_assoc (die_word mark m) (32 ∷ die_word mark n) rest)
    ∙ die-seen mark m (32 ∷ (die_word mark n ++ rest))
    ∙ ap (λ t. (48 + m) ∷ 32 ∷ t) (die-seen mark n rest)

-- a label before them
label-seen : (below none : Bool) (mark : Mark) (m n : ℕ) (rest : List ℕ)
    → seen_from false (spaced (labelled below (codes "dice") ([] ∷ [])
    (cond none ((45 ∷ []) ∷ []) (die_word mark m ∷ die_word mark n ∷ []))) ++ rest)
    ≡ spaced (labelled below (codes "dice") ([] ∷ [])
    (cond none ((45 ∷ []) ∷ []) (((48 + m) ∷ []) ∷ ((48 + n) ∷ []) ∷ []))) ++ seen_from false rest
label-seen true true mark m n rest = refl
label-seen false true mark m n rest = refl
label-seen true false mark m n rest = ap (λ t. codes "dice " ++ t) (two-seen false mark m n rest)
label-seen false false mark m n rest = ap (λ t. codes "  dice  " ++ t) (two-seen false mark m n rest)

-- the row of the dice
dice-seen : (below : Bool) (mark : Mark) (m n : ℕ) (rest : List ℕ)
    → seen_from false (spaced (labelled below (codes "dice") ([] ∷ []) (two_dice mark m n)) ++ rest)
    ≡ spaced (labelled below (codes "dice") ([] ∷ []) (two_dice M.Plain m n)) ++ seen_from false rest
dice-seen below mark m n rest =
    rw (plain-word m, plain-word n) (label-seen below ((m == 0) && (n == 0)) mark m n rest)

-- ---- facts

-- a fact without a mark
plain-note : (look : Look) → HasLetters look → (watched : Bool) (b : BoardFields) → IsSeen b → Ranges b → (n : Note)
    (rest : List ℕ)
    → seen_from false (spaced (note look watched b (position_of b) M.Plain n) ++ rest)
    ≡ spaced (note look watched b (position_of b) M.Plain n) ++ seen_from false rest
plain-note look h watched b s r n rest =
    plain-seen (spaced (note look watched b (position_of b) M.Plain n)) rest
    (words-plain (note look watched b (position_of b) M.Plain n) (note-row look h watched b s r n))

-- a fact is seen without its mark
note-seen : (look : Look) → HasLetters look → (watched : Bool) (b : BoardFields) → IsSeen b → Ranges b → (mark : Mark)
    (n : Note) (rest : List ℕ)
    → seen_from false (spaced (note look watched b (position_of b) mark n) ++ rest)
    ≡ spaced (note look watched b (position_of b) M.Plain n) ++ seen_from false rest
unfolding note
note-seen look h watched b s r mark (T.Name half.Upper) rest = plain-note look h watched b s r (T.Name half.Upper) rest
note-seen look h watched b s r mark (T.Name half.Lower) rest = plain-note look h watched b s r (T.Name half.Lower) rest
note-seen look h watched b s r mark (T.Score half.Upper) rest = plain-note look h watched b s r (T.Score half.Upper)
    rest
note-seen look h watched b s r mark (T.Score half.Lower) rest = plain-note look h watched b s r (T.Score half.Lower)
    rest
note-seen look h watched b s r mark (T.Off half.Upper) rest = plain-note look h watched b s r (T.Off half.Upper) rest
note-seen look h watched b s r mark (T.Off half.Lower) rest = plain-note look h watched b s r (T.Off half.Lower) rest
note-seen look h watched b s r mark (T.Pips half.Upper) rest = plain-note look h watched b s r (T.Pips half.Upper) rest
note-seen look h watched b s r mark (T.Pips half.Lower) rest = plain-note look h watched b s r (T.Pips half.Lower) rest
note-seen look h watched b s r mark (T.Dice half.Upper) rest = plain-note look h watched b s r (T.Dice half.Upper) rest
note-seen look h watched b s r mark T.Length rest = plain-note look h watched b s r T.Length rest
note-seen look h watched b s r mark T.Cube rest = plain-note look h watched b s r T.Cube rest
note-seen look h watched b s r mark T.Turn rest = plain-note look h watched b s r T.Turn rest
note-seen look h watched b s r mark (T.Dice half.Lower) rest =
    dice-seen (is_below look.columns) mark (natural (field_of b 34)) (natural (field_of b 35)) rest

-- a fact that is beside a row, or not
side-seen : (below : Bool) (xs ys : List (List ℕ)) (rest : List ℕ)
    → seen_from false (spaced xs ++ rest) ≡ spaced ys ++ seen_from false rest
    → seen_from false (spaced (cond below ([] ∷ []) xs) ++ rest) ≡ spaced (cond below ([] ∷ []) ys)
    ++ seen_from false rest
side-seen true xs ys rest e = refl
side-seen false xs ys rest e = e

-- ---- rows

-- the eye sees of a row its bytes
row-seen : FieldRanges → (look : Look) → HasLetters look → (watched : Bool) (b : BoardFields) → IsSeen b
    → (arrivals : List ℕ) (row : Drawn × Note) (rest : List ℕ)
    → seen_from false (written_row look watched b (position_of b) arrivals row ++ rest)
    ≡ seen_beside look watched b row ++ seen_from false rest
unfolding written_row seen_beside seen
row-seen f look h watched b s arrivals row rest =
    let p = position_of b in
    let drawn = board_row look p arrivals row.0 in
    let words = spaced (beside look watched b p (dice_mark look) row.1) in
    let bare = spaced (beside look watched b p M.Plain row.1) in
    ap (seen_from false) (append_assoc drawn (words ++ 10 ∷ []) rest)
    ∙ eye-sees look p arrivals row.0 ((words ++ 10 ∷ []) ++ rest) h
    ∙ ap (λ t. seen_row look p row.0 ++ seen_from false t) (append_assoc words (10 ∷ []) rest)
    ∙ ap (λ t. seen_row look p row.0 ++ t)
    (side-seen (is_below look.columns) (note look watched b p (dice_mark look) row.1)
    (note look watched b p M.Plain row.1)
    (10 ∷ rest) (note-seen look h watched b s (ranges-of f b s.board) (dice_mark look) row.1 (10 ∷ rest))
    ∙ sym (append_assoc bare (10 ∷ []) (seen_from false rest)))
    ∙ sym (append_assoc (seen_row look p row.0) (bare ++ 10 ∷ []) (seen_from false rest))

-- a row from above, as the eye sees it
seen_at : Look → Bool → BoardFields → Bool → ℕ → List ℕ
seen_at look watched b turned i =
    seen_beside look watched b (drawn_at (from_above turned i), note_at (from_above turned i))

-- these are all rows
all-rows : (look : Look) (watched : Bool) (b : BoardFields) (turned : Bool)
    → flat_map (seen_at look watched b turned) (range_with_len 0 13) ≡ flat_map (seen_beside look watched b)
    (rows_of turned)
unfolding seen_at
all-rows look watched b true = refl
all-rows look watched b false = refl

-- one of them
one-seen : FieldRanges → (look : Look) → HasLetters look → (watched : Bool) (b : BoardFields) → IsSeen b
    → (arrivals : List ℕ) (i : ℕ) (rest : List ℕ)
    → seen_from false (written_at look watched b (position_of b) arrivals i ++ rest)
    ≡ seen_at look watched b look.is_turned i ++ seen_from false rest
unfolding written_at seen_at
one-seen f look h watched b s arrivals i rest =
    let row = from_above look.is_turned i in
    row-seen f look h watched b s arrivals (drawn_at row, note_at row) rest

-- ---- below the board

-- a fact is plain
told-plain : FieldRanges → (look : Look) → HasLetters look → (watched : Bool) (b : BoardFields) → IsSeen b → (n : Note)
    → plain (told look watched b (position_of b) n) ≡ true
unfolding told
told-plain f look h watched b s n = words-plain (note look watched b (position_of b) M.Plain n)
    (note-row look h watched b s (ranges-of f b s.board) n)

-- so is what stands between two
sep-plain : (full : Bool) → not (cond full 10 32 == 27) ≡ true
sep-plain true = refl
sep-plain false = refl

-- some facts behind another one
behind-plain : FieldRanges → (look : Look) → HasLetters look → (watched : Bool) (b : BoardFields) → IsSeen b
    → (column : ℕ) (ns : List Note)
    → plain (facts_behind look.columns column (map (told look watched b (position_of b)) ns)) ≡ true
behind-plain f look h watched b s column [] = refl
behind-plain f look h watched b s column (n ∷ ns) =
    let fact = told look watched b (position_of b) n in
    let facts = facts_behind look.columns (ends_at look.columns column fact) (map (told look watched b
    (position_of b)) ns) in
    rw (sep-plain (is_full look.columns column fact))
    (plain-append fact facts (told-plain f look h watched b s n)
    (behind-plain f look h watched b s (ends_at look.columns column fact) ns))

-- a group
group-plain : FieldRanges → (look : Look) → HasLetters look → (watched : Bool) (b : BoardFields) → IsSeen b
    → (n : Note) (ns : List Note)
    → plain (facts_from look.columns (told look watched b (position_of b) n) (map (told look watched b
    (position_of b)) ns))
    ≡ true
group-plain f look h watched b s n ns =
    let fact = told look watched b (position_of b) n in
    plain-append fact (facts_behind look.columns (length fact) (map (told look watched b (position_of b)) ns))
    (told-plain f look h watched b s n) (behind-plain f look h watched b s (length fact) ns)

-- all groups
below-plain : FieldRanges → (look : Look) → HasLetters look → (watched : Bool) (b : BoardFields) → IsSeen b
    → plain (words_below look watched b (position_of b)) ≡ true
unfolding words_below
below-plain f look h watched b s =
    let p = position_of b in
    let x = side_facts look watched b p (half_above look.is_turned) in
    let m = match_facts look watched b p in
    let y = side_facts look watched b p (half_below look.is_turned) in
    let side : (h' : Half) → plain (side_facts look watched b p h') ≡ true =
    λ h'. group-plain f look h watched b s (T.Name h') (T.Score h' ∷ T.Off h' ∷ T.Pips h' ∷ T.Dice h' ∷ []) in
    plain-append x (m ++ y) (side (half_above look.is_turned))
    (plain-append m y (group-plain f look h watched b s T.Length (T.Cube ∷ T.Turn ∷ []))
    (side (half_below look.is_turned)))

-- what can be done
deed-plain : (p : Phase) (accepts doubles : Bool) → plain (deed p accepts doubles ++ 10 ∷ []) ≡ true
deed-plain phase.Over accepts doubles = refl
deed-plain phase.AnswerDouble true doubles = refl
deed-plain phase.AnswerDouble false doubles = refl
deed-plain phase.OpponentActs accepts doubles = refl
deed-plain phase.RollOrDouble accepts true = refl
deed-plain phase.RollOrDouble accepts false = refl
deed-plain phase.Move accepts doubles = refl
deed-plain phase.Passing accepts doubles = refl

-- the row of it
deed_row-plain : (look : Look) (watched wanted : Bool) (p : PositionValue) → plain (deed_row look watched wanted p)
    ≡ true
unfolding deed_row deed_in
deed_row-plain look watched wanted p =
    plain-cond (has_deed look watched wanted (phase_in p)) (32 ∷ (deed_in p ++ 10 ∷ [])) []
    (deed-plain (phase_in p) (may p accept) (may p double)) refl

-- ---- the picture

-- the eye sees of the picture its bytes
pub picture-seen : FieldRanges → PictureSeen
unfolding written_picture seen_picture seen
picture-seen f look watched wanted b arrivals rest h s =
    let p = position_of b in
    let written = flat_map (written_at look watched b p arrivals) (range_with_len 0 13) in
    let lower = lower_words look watched b p in
    let deed = deed_row look watched wanted p in
    let shown = flat_map (seen_beside look watched b) (rows_of look.is_turned) in
    let flat : plain (lower ++ deed) ≡ true = plain-append lower deed
    (plain-cond (is_below look.columns) (words_below look watched b p) [] (below-plain f look h watched b s) refl)
    (deed_row-plain look watched wanted p) in
    ap (seen_from false) (append_assoc written (lower ++ deed) rest)
    ∙ columns-seen (written_at look watched b p arrivals) (seen_at look watched b look.is_turned)
    (one-seen f look h watched b s arrivals) (range_with_len 0 13) ((lower ++ deed) ++ rest)
    ∙ ap (λ t. t ++ seen_from false ((lower ++ deed) ++ rest)) (all-rows look watched b look.is_turned)
    ∙ ap (λ t. shown ++ t) (plain-seen (lower ++ deed) rest flat)
    ∙ sym (append_assoc shown (lower ++ deed) (seen_from false rest))
