-- The words of a picture are rows: each word is solid.
use Rattle.std.proofs.Common.{◌≡◌, ◌<◌, ◌+◌, ◌-◌, ◌^◌, ◌==◌, ◌&&◌, ◌++◌, ℕ, Bool, true, false, cond, codes, List, [], ◌∷◌, length, take, refl, arith, lit<, min, nat_lt}
use Rattle.std.specs.Prelude.{ℤ, pos, negsuc, decimal}
use Rattle.std.specs.Fmt.{signed_decimal}
use Rattle.std.specs.Int.{is_in_range}
use Rattle.std.specs.Ordering.{int_eq}
use Rattle.std.specs.Str.{bytes_eq}
use Rattle.std.proofs.lemmas.Bool.Decides.{nat_tests}
use Rattle.std.proofs.lemmas.Int.{ints}
use Rattle.fibs_fields.specs.Board.{BoardFields, field_of}
use Rattle.fibs_fields.specs.FieldReading.{natural}
use Rattle.fibs_position.specs.OwnView.{own_view, turn, colour}
use Rattle.fibs_position.specs.PositionValue.{position_of}
use Rattle.fibs_picture.specs.Look.{IsLetter, HasLetters}
use Rattle.fibs_picture.specs.Marks.{marked}
use Rattle.fibs_picture.specs.Notes.{room, says_long_words, lettered, labelled, die_word, two_dice, race_count, race_word, match_words, whose, doublers, others_turn, turn_words, note}
use Rattle.fibs_picture.specs.Picture.{own_pips, other_pips, is_one}
use Rattle.fibs_picture.specs.Strip.{is_below}
use Rattle.fibs_picture.specs.Tells.{IsSeen}
use Rattle.fibs_picture.specs.declared.cell.Half.TheVariants as half
use Rattle.fibs_picture.specs.declared.look.Look.{Look}
use Rattle.fibs_picture.specs.declared.mark.Mark.TheVariants as M
use Rattle.fibs_picture.specs.declared.notes.Note.{Note}
use Rattle.fibs_picture.specs.declared.notes.Note.TheVariants as T
use Rattle.fibs_picture.proofs.PictureLemmas.Ranges.{Ranges, Within, own-pips-few, other-pips-few}
use Rattle.fibs_picture.proofs.PictureLemmas.Words.{solid, is_row, solid-append, solid-take, name-solid, digit-solid, decimal-solid, number-solid}

-- a letter is printed
letter-solid : (letter : ℕ) → IsLetter letter → is_in_range 33 126 letter ≡ true
letter-solid letter h = let low = h.0 in let high = h.1 in grind (arith, nat_tests)

-- a letter and a word
lettered-row : (letter : ℕ) (word : List ℕ) → IsLetter letter → solid word ≡ true → is_row (lettered letter word) ≡ true
lettered-row letter word h k = rw (letter-solid letter h, k) refl

-- one of two rows
pub row-cond : (b : Bool) (xs ys : List (List ℕ)) → is_row xs ≡ true → is_row ys ≡ true → is_row (cond b xs ys) ≡ true
row-cond true xs ys h k = h
row-cond false xs ys h k = k

-- what is a player's
whose-solid : (name : List ℕ) → solid name ≡ true → solid (whose name) ≡ true
whose-solid name h = solid-append name (codes "'s") h refl

-- a label before a score
score-row : (below : Bool) (w : List ℕ) → solid w ≡ true → is_row (labelled below (codes "score") [] (w ∷ [])) ≡ true
score-row true w h = h
score-row false w h = h

-- before what is off
off-row : (below : Bool) (w : List ℕ) → solid w ≡ true
    → is_row (labelled below (codes "off") ([] ∷ [] ∷ []) (w ∷ [])) ≡ true
off-row true w h = h
off-row false w h = h

-- before pips
pips-row : (below : Bool) (w : List ℕ) → solid w ≡ true → is_row (labelled below (codes "pips") ([] ∷ []) (w ∷ []))
    ≡ true
pips-row true w h = h
pips-row false w h = h

-- a number in brackets, or a word, has no space
count-solid : (even behind : Bool) (m n : ℕ) → m < 2 ^ 64 → n < 2 ^ 64
    → solid (cond even (codes "(even") (40 ∷ decimal (cond behind m n))) ≡ true
count-solid true behind m n h k = refl
count-solid false true m n h k = decimal-solid m h
count-solid false false m n h k = decimal-solid n k

-- nor has the word behind it
word-solid : (even behind : Bool) → solid (cond even (codes "race)") (cond behind (codes "behind)") (codes "ahead)")))
    ≡ true
word-solid true behind = refl
word-solid false true = refl
word-solid false false = refl

-- before three words
race-row : (below : Bool) (w x y : List ℕ) → solid w ≡ true → solid x ≡ true → solid y ≡ true
    → is_row (labelled below (codes "pips") ([] ∷ []) (w ∷ x ∷ y ∷ [])) ≡ true
race-row true w x y h k l = rw (h, k, l) refl
race-row false w x y h k l = rw (h, k, l) refl

-- a die without a mark
plain-die : (none : Bool) (die : ℕ) → marked (cond none M.Plain M.Plain) (48 + die) ≡ (48 + die) ∷ []
unfolding marked
plain-die true die = refl
plain-die false die = refl

-- as a word
pub plain-word : (die : ℕ) → die_word M.Plain die ≡ (48 + die) ∷ []
plain-word die = plain-die (die == 0) die

-- a die has one digit
pub natural-few : (z : ℤ) → Within 6 z → natural z < 10
natural-few (pos n) h = omega (arith, ints, h.1)
natural-few (negsuc n) h = lit< tt

-- two dice, or none, behind their label
dice-row : (below none : Bool) (m n : ℕ) → m < 10 → n < 10
    → is_row (labelled below (codes "dice") ([] ∷ [])
    (cond none ((45 ∷ []) ∷ []) (((48 + m) ∷ []) ∷ ((48 + n) ∷ []) ∷ []))) ≡ true
dice-row true true m n h k = refl
dice-row false true m n h k = refl
dice-row true false m n h k = rw (digit-solid m h, digit-solid n k) refl
dice-row false false m n h k = rw (digit-solid m h, digit-solid n k) refl

-- of a board
dice-of : (below : Bool) (m n : ℕ) → m < 10 → n < 10
    → is_row (labelled below (codes "dice") ([] ∷ []) (two_dice M.Plain m n)) ≡ true
dice-of below m n h k = rw (plain-word m, plain-word n) (dice-row below ((m == 0) && (n == 0)) m n h k)

-- how long a match is
pub match-row : (z : ℤ) → Within 9999 z → is_row (match_words z) ≡ true
match-row z h = row-cond (int_eq z (pos 9999)) (codes "unlimited" ∷ codes "match" ∷ [])
    (codes "match" ∷ codes "to" ∷ signed_decimal z ∷ []) refl (number-solid 9999 z (lit< tt) h)

-- who may double
pub doublers-row : (look : Look) → HasLetters look → (watched : Bool) (b : BoardFields) → solid b.player ≡ true
    → solid b.opponent ≡ true → (left : ℕ) (own other : Bool) → is_row (doublers look watched b left own other) ≡ true
unfolding doublers
doublers-row look h watched b p o left true true =
    row-cond (says_long_words look) (codes "in" ∷ codes "the" ∷ codes "middle" ∷ []) (codes "centred" ∷ []) refl refl
doublers-row look h watched b p o left true false =
    let name = take (min (left - 4) 14) b.player in
    row-cond watched (lettered look.own (whose name)) (codes "yours" ∷ [])
    (lettered-row look.own (whose name) h.own (whose-solid name (solid-take (min (left - 4) 14) b.player p))) refl
doublers-row look h watched b p o left false true =
    let name = take (min (left - 4) 14) b.opponent in
    let short = take (min (left - 2) 24) b.opponent in
    let long = codes "the" ∷ codes "opponent's" ∷ [] in
    row-cond watched (lettered look.other (whose name)) (cond (says_long_words look) long (whose short ∷ []))
    (lettered-row look.other (whose name) h.other (whose-solid name (solid-take (min (left - 4) 14) b.opponent o)))
    (row-cond (says_long_words look) long (whose short ∷ []) refl (whose-solid short (solid-take (min (left - 2) 24)
    b.opponent o)))
doublers-row look h watched b p o left false false = refl

-- a player's turn, by letter and name
own-turn-row : (letter : ℕ) (name : List ℕ) → IsLetter letter → solid name ≡ true
    → is_row ((letter ∷ []) ∷ whose name ∷ codes "turn" ∷ []) ≡ true
own-turn-row letter name h k = rw (letter-solid letter h, whose-solid name k) refl

-- the opponent's turn
others-row : (look : Look) (name : List ℕ) → solid name ≡ true → is_row (others_turn look name) ≡ true
unfolding others_turn
others-row look name k =
    let long = codes "the" ∷ codes "opponent's" ∷ codes "turn" ∷ [] in
    let short = whose name ∷ codes "turn" ∷ [] in
    row-cond (says_long_words look) long (cond (bytes_eq name (codes "nobody")) long short) refl
    (row-cond (bytes_eq name (codes "nobody")) long short refl (rw (whose-solid name k) refl))

-- whose turn it is
turn-row : (look : Look) → HasLetters look → (watched : Bool) (b : BoardFields) → solid b.player ≡ true
    → solid b.opponent ≡ true → (none own : Bool) → is_row (turn_words look watched b none own) ≡ true
unfolding turn_words
turn-row look h watched b p o true own = refl
turn-row look h watched b p o false true =
    let name = take (room look.columns - 9) b.player in
    row-cond watched ((look.own ∷ []) ∷ whose name ∷ codes "turn" ∷ []) (codes "your" ∷ codes "turn" ∷ [])
    (own-turn-row look.own name h.own (solid-take (room look.columns - 9) b.player p)) refl
turn-row look h watched b p o false false =
    let name = take (room look.columns - 9) b.opponent in
    let short = take (room look.columns - 8) b.opponent in
    row-cond watched ((look.other ∷ []) ∷ whose name ∷ codes "turn" ∷ []) (others_turn look short)
    (own-turn-row look.other name h.other (solid-take (room look.columns - 9) b.opponent o))
    (others-row look short (solid-take (room look.columns - 8) b.opponent o))

-- a row of a cube, whoever may double
cube-front : (x : List ℕ) (ws : List (List ℕ)) → solid x ≡ true → is_row ws ≡ true
    → is_row (codes "cube" ∷ (x ++ codes ",") ∷ ws) ≡ true
cube-front x [] h k = cc
cube-front x (w ∷ ws) h k = rw (solid-append x (codes ",") h refl, k) refl

-- each fact is told in a row of words
pub note-row : (look : Look) → HasLetters look → (watched : Bool) (b : BoardFields) → IsSeen b → Ranges b
    → (n : Note) → is_row (note look watched b (position_of b) M.Plain n) ≡ true
unfolding note
note-row look h watched b s r (T.Name half.Upper) =
    lettered-row look.other (take (room look.columns - 2) b.opponent) h.other
    (solid-take (room look.columns - 2) b.opponent (name-solid b.opponent s.board.1))
note-row look h watched b s r (T.Name half.Lower) =
    lettered-row look.own (take (room look.columns - 2) b.player) h.own
    (solid-take (room look.columns - 2) b.player (name-solid b.player s.board.0))
note-row look h watched b s r (T.Score half.Upper) = score-row (is_below look.columns) (signed_decimal (field_of b 6))
    (number-solid 99999999 (field_of b 6) (lit< tt) r.other_score)
note-row look h watched b s r (T.Score half.Lower) = score-row (is_below look.columns) (signed_decimal (field_of b 5))
    (number-solid 99999999 (field_of b 5) (lit< tt) r.own_score)
note-row look h watched b s r (T.Off half.Upper) = off-row (is_below look.columns) (signed_decimal (field_of b 47))
    (number-solid 15 (field_of b 47) (lit< tt) r.other_off_is)
note-row look h watched b s r (T.Off half.Lower) = off-row (is_below look.columns) (signed_decimal (field_of b 46))
    (number-solid 15 (field_of b 46) (lit< tt) r.own_off_is)
note-row look h watched b s r (T.Pips half.Upper) = pips-row (is_below look.columns) (decimal (other_pips (own_view b)))
    (decimal-solid (other_pips (own_view b)) (other-pips-few b s.other))
note-row look h watched b s r (T.Pips half.Lower) =
    let own = own_pips (own_view b) in
    let other = other_pips (own_view b) in
    let few = own-pips-few b s.own in
    let others = other-pips-few b s.other in
    race-row (is_below look.columns) (decimal own) (race_count own other) (race_word own other)
    (decimal-solid own few)
    (count-solid (own == other) (nat_lt other own) (own - other) (other - own) (omega (arith, few))
    (omega (arith, others))) (word-solid (own == other) (nat_lt other own))
note-row look h watched b s r (T.Dice half.Upper) =
    dice-of (is_below look.columns) (natural (field_of b 36)) (natural (field_of b 37))
    (natural-few (field_of b 36) r.die_3) (natural-few (field_of b 37) r.die_4)
note-row look h watched b s r (T.Dice half.Lower) =
    dice-of (is_below look.columns) (natural (field_of b 34)) (natural (field_of b 35))
    (natural-few (field_of b 34) r.die_1) (natural-few (field_of b 35) r.die_2)
note-row look h watched b s r T.Length = match-row (field_of b 4) r.length_of
note-row look h watched b s r T.Cube =
    cube-front (signed_decimal (field_of b 38)) (doublers look watched b
    ((room look.columns - 7) - length (signed_decimal (field_of b 38))) (is_one b 39) (is_one b 40))
    (number-solid 1048576 (field_of b 38) (lit< tt) r.cube_is)
    (doublers-row look h watched b (name-solid b.player s.board.0) (name-solid b.opponent s.board.1)
    ((room look.columns - 7) - length (signed_decimal (field_of b 38))) (is_one b 39) (is_one b 40))
note-row look h watched b s r T.Turn =
    turn-row look h watched b (name-solid b.player s.board.0) (name-solid b.opponent s.board.1)
    (int_eq (turn b) (pos 0)) (int_eq (turn b) (colour b))
