-- The words of a picture tell their facts.
use Rattle.std.proofs.Common.{◌≡◌, ◌≢◌, ◌⊎◌, ◌<◌, ◌+◌, ◌-◌, ◌^◌, ◌==◌, ◌&&◌, ◌++◌, ℕ, Bool, true, false, cond, codes, List, [], ◌∷◌, length, take, refl, sym, ◌∙◌, ap, arith, inl, inr, lit<, min}
use Rattle.std.specs.Prelude.{ℤ, pos, negsuc}
use Rattle.std.specs.Fmt.{signed_decimal}
use Rattle.std.specs.Ordering.{int_eq}
use Rattle.std.specs.Str.{bytes_eq}
use Rattle.std.proofs.lemmas.Bool.{and_parts, false≢true}
use Rattle.std.proofs.lemmas.Bool.Decides.{nat_tests}
use Rattle.std.proofs.lemmas.Int.{ints}
use Rattle.std.proofs.lemmas.List.{append_cancel_left, append_cancel_right}
use Rattle.std.proofs.lemmas.Slice.Eq.{bytes_eq-Decides}
use Rattle.fibs_fields.specs.Board.{BoardFields}
use Rattle.fibs_fields.specs.FieldReading.{natural}
use Rattle.fibs_picture.specs.Told.{Whose, nobodys, the_players, the_opponents}
use Rattle.fibs_position.specs.OwnView.{turn}
use Rattle.fibs_picture.specs.Look.{HasLetters}
use Rattle.fibs_picture.specs.Notes.{room, says_long_words, lettered, labelled, two_dice, match_words, whose, doublers, others_turn, turn_words}
use Rattle.fibs_picture.specs.declared.look.Look.{Look}
use Rattle.fibs_picture.specs.declared.mark.Mark.TheVariants as M
use Rattle.fibs_picture.proofs.PictureLemmas.Ranges.{Within, number-tells}
use Rattle.fibs_picture.proofs.PictureLemmas.Solid.{plain-word}

-- ---- words and labels

-- one word
pub word-tells : (x y : List ℕ) → ◌≡◌ {A = List (List ℕ)} (x ∷ []) (y ∷ []) → x ≡ y
word-tells x y e = cc

-- what stands behind a label
pub label-tells : (below : Bool) (label : List ℕ) (fill v w : List (List ℕ))
    → labelled below label fill v ≡ labelled below label fill w → v ≡ w
label-tells true label fill v w e = cc
label-tells false label fill v w e = let same : fill ++ v ≡ fill ++ w = cc in append_cancel_left fill v w same

-- a letter and a word
pub lettered-tells : (letter : ℕ) (x y : List ℕ) → lettered letter x ≡ lettered letter y → x ≡ y
lettered-tells letter x y e = cc

-- a number behind a label
pub count-tells : (below : Bool) (label : List ℕ) (fill : List (List ℕ)) (m : ℕ) (y z : ℤ) → m < 2 ^ 32 → Within m y
    → Within m z → labelled below label fill (signed_decimal y ∷ []) ≡ labelled below label fill (signed_decimal z ∷ [])
    → y ≡ z
count-tells below label fill m y z few h k e =
    number-tells m y z few h k (word-tells (signed_decimal y) (signed_decimal z)
    (label-tells below label fill (signed_decimal y ∷ []) (signed_decimal z ∷ []) e))

-- ---- dice

-- a number that is found to be 0 is 0
is-zero : (n : ℕ) → (n == 0) ≡ true → n ≡ 0
is-zero n h = grind (arith, nat_tests)

-- the words of two dice, or of none
abbrev dice_list : Bool → ℕ → ℕ → List (List ℕ)
dice_list none m n = cond none ((45 ∷ []) ∷ []) (((48 + m) ∷ []) ∷ ((48 + n) ∷ []) ∷ [])

dice-list : (m n : ℕ) → two_dice M.Plain m n ≡ dice_list ((m == 0) && (n == 0)) m n
dice-list m n = rw (plain-word m, plain-word n) refl

-- equal words are of equal dice
dice-cases : (m n m' n' : ℕ) (none none' : Bool) → none ≡ ((m == 0) && (n == 0)) → none' ≡ ((m' == 0) && (n' == 0))
    → dice_list none m n ≡ dice_list none' m' n' → (m ≡ m') × (n ≡ n')
dice-cases m n m' n' true true h k e =
    let p = and_parts (m == 0) (n == 0) (sym h) in
    let q = and_parts (m' == 0) (n' == 0) (sym k) in
    (is-zero m p.0 ∙ sym (is-zero m' q.0), is-zero n p.1 ∙ sym (is-zero n' q.1))
dice-cases m n m' n' true false h k e = cc
dice-cases m n m' n' false true h k e = cc
dice-cases m n m' n' false false h k e =
    let first : 48 + m ≡ 48 + m' = cc in
    let second : 48 + n ≡ 48 + n' = cc in
    (omega (arith, first), omega (arith, second))

-- dice with the same number are the same
natural-tells : (y z : ℤ) → Within 6 y → Within 6 z → natural y ≡ natural z → y ≡ z
natural-tells (pos m) (pos n) h k e = ap pos e
natural-tells (negsuc m) z h k e = absurd (omega (arith, ints, h.0))
natural-tells (pos m) (negsuc n) h k e = absurd (omega (arith, ints, k.0))

-- dice behind their label
pub dice-tell : (below : Bool) (y z y' z' : ℤ) → Within 6 y → Within 6 z → Within 6 y' → Within 6 z'
    → labelled below (codes "dice") ([] ∷ []) (two_dice M.Plain (natural y) (natural z))
    ≡ labelled below (codes "dice") ([] ∷ []) (two_dice M.Plain (natural y') (natural z'))
    → (y ≡ y') × (z ≡ z')
dice-tell below y z y' z' h i j k e =
    let m = natural y in let n = natural z in let m' = natural y' in let n' = natural z' in
    let same = label-tells below (codes "dice") ([] ∷ []) (two_dice M.Plain m n) (two_dice M.Plain m' n') e in
    let t = dice-cases m n m' n' ((m == 0) && (n == 0)) ((m' == 0) && (n' == 0)) refl refl
    (sym (dice-list m n) ∙ same ∙ dice-list m' n') in
    (natural-tells y y' h j t.0, natural-tells z z' i k t.1)

-- ---- the match

-- a length that is found to be 9999 is 9999
is-endless : (z : ℤ) → int_eq z (pos 9999) ≡ true → z ≡ pos 9999
is-endless z h = grind (arith, nat_tests)

-- the words of a match, by whether it is endless
abbrev match_list : Bool → ℤ → List (List ℕ)
match_list endless z = cond endless (codes "unlimited" ∷ codes "match" ∷ [])
    (codes "match" ∷ codes "to" ∷ signed_decimal z ∷ [])

-- equal words are of matches of one length
match-cases : (y z : ℤ) (a b : Bool) → a ≡ int_eq y (pos 9999) → b ≡ int_eq z (pos 9999) → Within 9999 y
    → Within 9999 z → match_list a y ≡ match_list b z → y ≡ z
match-cases y z true true p q h k e = is-endless y (sym p) ∙ sym (is-endless z (sym q))
match-cases y z true false p q h k e = cc
match-cases y z false true p q h k e = cc
match-cases y z false false p q h k e =
    let same : signed_decimal y ≡ signed_decimal z = cc in number-tells 9999 y z (lit< tt) h k same

-- equal texts of a match are of equal facts
pub match-tells : (y z : ℤ) → Within 9999 y → Within 9999 z → match_words y ≡ match_words z → y ≡ z
match-tells y z h k e = match-cases y z (int_eq y (pos 9999)) (int_eq z (pos 9999)) refl refl h k e

-- ---- the last byte but one

-- of a text, or what stands before it
abbrev last_but_one : ℕ → List ℕ → ℕ
last_but_one p [] = 0
last_but_one p (x ∷ []) = p
last_but_one p (x ∷ y ∷ ys) = last_but_one x (y ∷ ys)

-- of what is a player's it is the apostrophe
whose-last : (p : ℕ) (name : List ℕ) → last_but_one p (name ++ (39 ∷ 115 ∷ [])) ≡ 39
whose-last p [] = refl
whose-last p (x ∷ []) = refl
whose-last p (x ∷ y ∷ name) = whose-last x (y ∷ name)

-- ---- who may double

-- one number for each
abbrev kind : Bool → Bool → ℕ
kind true true = 1
kind true false = 2
kind false true = 3
kind false false = 0

-- who may double, read in the words: on a board of the user's own
abbrev own_kind : List (List ℕ) → ℕ
own_kind [] = 0
own_kind (w ∷ []) = cond (last_but_one 0 w == 39) 3 (cond (last_but_one 0 w == 114) 2 1)
own_kind (w ∷ x ∷ []) = cond (length w == 3) 3 0
own_kind (w ∷ x ∷ y ∷ ws) = 1

-- and on one that he watches
abbrev watched_kind : ℕ → List (List ℕ) → ℕ
watched_kind letter [] = 0
watched_kind letter (w ∷ []) = 1
watched_kind letter ([] ∷ x ∷ []) = 0
watched_kind letter ((c ∷ []) ∷ x ∷ []) = cond (c == letter) 2 3
watched_kind letter ((c ∷ d ∷ w) ∷ x ∷ []) = 0
watched_kind letter (w ∷ x ∷ y ∷ ws) = 1

-- what is found of a choice is found of its parts
kind-cond : (f : List (List ℕ) → ℕ) (b : Bool) (xs ys : List (List ℕ)) (n : ℕ) → f xs ≡ n → f ys ≡ n
    → f (cond b xs ys) ≡ n
kind-cond f true xs ys n h k = h
kind-cond f false xs ys n h k = k

whose-kind : (name : List ℕ) → own_kind (whose name ∷ []) ≡ 3
whose-kind name = rw (whose-last 0 name) refl

same-letter : (c : ℕ) → (c == c) ≡ true
same-letter c = grind (arith, nat_tests)

other-letter : (c d : ℕ) → c ≢ d → (d == c) ≡ false
other-letter c d h = grind (arith, nat_tests)

-- it is read back
doublers-read : (look : Look) (b : BoardFields) (left : ℕ) (own other : Bool)
    → own_kind (doublers look false b left own other) ≡ kind own other
unfolding doublers
doublers-read look b left true true = kind-cond own_kind (says_long_words look) _ _ 1 refl refl
doublers-read look b left true false = refl
doublers-read look b left false true =
    kind-cond own_kind (says_long_words look) _ _ 3 refl (whose-kind (take (min (left - 2) 24) b.opponent))
doublers-read look b left false false = refl

-- also on a watched board
doublers-watched : (look : Look) → HasLetters look → (b : BoardFields) (left : ℕ) (own other : Bool)
    → watched_kind look.own (doublers look true b left own other) ≡ kind own other
unfolding doublers
doublers-watched look h b left true true = kind-cond (watched_kind look.own) (says_long_words look) _ _ 1 refl refl
doublers-watched look h b left true false = rw (same-letter look.own) refl
doublers-watched look h b left false true = rw (other-letter look.own look.other h.two) refl
doublers-watched look h b left false false = refl

-- one number is of the same flags
kinds-tell : (a b c d : Bool) → kind a b ≡ kind c d → (a ≡ c) × (b ≡ d)
kinds-tell true true true true e = (refl, refl)
kinds-tell true true true false e = absurd (omega (arith, e))
kinds-tell true true false true e = absurd (omega (arith, e))
kinds-tell true true false false e = absurd (omega (arith, e))
kinds-tell true false true true e = absurd (omega (arith, e))
kinds-tell true false true false e = (refl, refl)
kinds-tell true false false true e = absurd (omega (arith, e))
kinds-tell true false false false e = absurd (omega (arith, e))
kinds-tell false true true true e = absurd (omega (arith, e))
kinds-tell false true true false e = absurd (omega (arith, e))
kinds-tell false true false true e = (refl, refl)
kinds-tell false true false false e = absurd (omega (arith, e))
kinds-tell false false true true e = absurd (omega (arith, e))
kinds-tell false false true false e = absurd (omega (arith, e))
kinds-tell false false false true e = absurd (omega (arith, e))
kinds-tell false false false false e = (refl, refl)

-- equal words are of the same doublers, however much room there is
pub doublers-tell : (look : Look) → HasLetters look → (watched : Bool) (a b : BoardFields) (m n : ℕ) (o t o' t' : Bool)
    → doublers look watched a m o t ≡ doublers look watched b n o' t' → (o ≡ o') × (t ≡ t')
doublers-tell look h false a b m n o t o' t' e =
    kinds-tell o t o' t' (sym (doublers-read look a m o t) ∙ ap own_kind e ∙ doublers-read look b n o' t')
doublers-tell look h true a b m n o t o' t' e =
    kinds-tell o t o' t' (sym (doublers-watched look h a m o t) ∙ ap (watched_kind look.own) e
    ∙ doublers-watched look h b n o' t')

-- a cube and who may double
pub cube-tells : (y z : ℤ) (v w : List (List ℕ)) → Within 1048576 y → Within 1048576 z
    → codes "cube" ∷ (signed_decimal y ++ codes ",") ∷ v ≡ codes "cube" ∷ (signed_decimal z ++ codes ",") ∷ w
    → (y ≡ z) × (v ≡ w)
cube-tells y z v w h k e =
    let same : signed_decimal y ++ codes "," ≡ signed_decimal z ++ codes "," = cc in
    let rest : v ≡ w = cc in (
      number-tells 1048576 y z (lit< tt) h k (append_cancel_right (signed_decimal y) (signed_decimal z) (codes ",")
          same),
      rest,
    )

-- ---- whose turn it is

-- by two tests
abbrev pub whose_is : Bool → Bool → Whose
whose_is none own = cond none nobodys (cond own the_players the_opponents)

-- read in the words, on a board of the user's own
abbrev own_whose : List (List ℕ) → Whose
own_whose [] = nobodys
own_whose (w ∷ []) = nobodys
own_whose (w ∷ x ∷ []) = cond (bytes_eq w (codes "nobody's")) nobodys
    (cond (last_but_one 0 w == 39) the_opponents the_players)
own_whose (w ∷ x ∷ y ∷ ws) = the_opponents

-- and on one that he watches
abbrev watched_whose : ℕ → List (List ℕ) → Whose
watched_whose letter [] = nobodys
watched_whose letter (w ∷ []) = nobodys
watched_whose letter (w ∷ x ∷ []) = nobodys
watched_whose letter ([] ∷ x ∷ y ∷ ws) = nobodys
watched_whose letter ((c ∷ w) ∷ x ∷ y ∷ ws) = cond (c == letter) the_players the_opponents

-- a name that is not nobody, with what makes it a player's, is not nobody's
still-not : (name : List ℕ) (b : Bool) → bytes_eq name (codes "nobody") ≡ false
    → bytes_eq (whose name) (codes "nobody's") ≡ b → b ≡ false
still-not name true h e =
    let same = append_cancel_right name (codes "nobody") (codes "'s") ((bytes_eq-Decides (whose name)
    (codes "nobody's")).0 e) in
    sym ((bytes_eq-Decides name (codes "nobody")).1 same) ∙ h
still-not name false h e = refl

-- the opponent's turn is read back
others-read : (name : List ℕ) (long is : Bool) → bytes_eq name (codes "nobody") ≡ is
    → own_whose (cond long (codes "the" ∷ codes "opponent's" ∷ codes "turn" ∷ [])
    (cond is (codes "the" ∷ codes "opponent's" ∷ codes "turn" ∷ []) (whose name ∷ codes "turn" ∷ [])))
    ≡ the_opponents
others-read name true is h = refl
others-read name false true h = refl
others-read name false false h = rw (still-not name _ h refl, whose-last 0 name) refl

-- each turn is
turn-read : (look : Look) (b : BoardFields) (none own : Bool)
    → own_whose (turn_words look false b none own) ≡ whose_is none own
unfolding turn_words others_turn
turn-read look b true own = refl
turn-read look b false true = refl
turn-read look b false false = others-read (take (room look.columns - 8) b.opponent) (says_long_words look) _ refl

-- also on a watched board
turn-watched : (look : Look) → HasLetters look → (b : BoardFields) (none own : Bool)
    → watched_whose look.own (turn_words look true b none own) ≡ whose_is none own
unfolding turn_words
turn-watched look h b true own = refl
turn-watched look h b false true = rw (same-letter look.own) refl
turn-watched look h b false false = rw (other-letter look.own look.other h.two) refl

-- equal words are of the same turn
pub turn-tells : (look : Look) → HasLetters look → (watched : Bool) (a b : BoardFields) (none own none' own' : Bool)
    → turn_words look watched a none own ≡ turn_words look watched b none' own' → whose_is none own
    ≡ whose_is none' own'
turn-tells look h false a b n o n' o' e =
    sym (turn-read look a n o) ∙ ap own_whose e ∙ turn-read look b n' o'
turn-tells look h true a b n o n' o' e =
    sym (turn-watched look h a n o) ∙ ap (watched_whose look.own) e ∙ turn-watched look h b n' o'

-- a flag is known by whether it is 1
flag-cases : (y z : ℤ) → (y ≡ pos 0) ⊎ (y ≡ pos 1) → (z ≡ pos 0) ⊎ (z ≡ pos 1) → int_eq y (pos 1) ≡ int_eq z (pos 1)
    → y ≡ z
flag-cases y z (inl h) (inl k) e = h ∙ sym k
flag-cases y z (inr h) (inr k) e = h ∙ sym k
flag-cases y z (inl h) (inr k) e = let no : false ≡ true = rw (h, k) at e in absurd (false≢true no)
flag-cases y z (inr h) (inl k) e = let no : true ≡ false = rw (h, k) at e in absurd (false≢true (sym no))

-- flags that are found to be alike are the same
pub flag-tells : (y z : ℤ) → (y ≡ pos 0) ⊎ (y ≡ pos 1) → (z ≡ pos 0) ⊎ (z ≡ pos 1)
    → int_eq y (pos 1) ≡ int_eq z (pos 1) → y ≡ z
flag-tells = flag-cases
