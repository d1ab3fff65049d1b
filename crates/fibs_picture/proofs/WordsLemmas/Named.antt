-- Equal rows with names say the same.
use Rattle.std.proofs.Common.{◌≡◌, ◌<◌, ◌+◌, ◌-◌, ◌==◌, ◌&&◌, ◌++◌, ℕ, Bool, true, false, not, cond, List, [], ◌∷◌, codes, refl, sym, ◌∙◌, ap, arith, lit<, append_assoc}
use Rattle.std.specs.Prelude.{ℤ, slice_index_or}
use Rattle.std.specs.Fmt.{signed_decimal}
use Rattle.std.proofs.lemmas.Bool.{and_parts}
use Rattle.std.proofs.lemmas.Bool.Decides.{nat_tests}
use Rattle.std.proofs.lemmas.List.{append_cancel_left, append_cancel_right}
use Rattle.fibs_fields.specs.Board.{BoardFields, field_of}
use Rattle.fibs_position.specs.declared.direction.Direction.{Direction}
use Rattle.fibs_position.specs.declared.direction.Direction.TheVariants.{Down, Up}
use Rattle.fibs_position.specs.declared.phase.Phase.{Phase}
use Rattle.fibs_position.specs.declared.phase.Phase.TheVariants as phase
use Rattle.fibs_picture.specs.Picture.{is_one}
use Rattle.fibs_picture.proofs.PictureLemmas.Parts.{lacks, lacks-append, ends-tell}
use Rattle.fibs_picture.proofs.PictureLemmas.Notes.{number-lacks, digit-plain, is-zero}
use Rattle.fibs_picture.proofs.PictureLemmas.Ranges.{Within, number-tells}
use Rattle.fibs_picture.specs.InWords.Words.{pair}
use Rattle.fibs_picture.specs.InWords.Watched.{against_row, offered_said, turn_named, dice_said, dice_named, owner_said, cube_named, way_said}
use Rattle.fibs_picture.proofs.WordsLemmas.Rows.{less}

-- ---- who plays

-- the row of who plays whom has no line end
pub against_row-lacks : (p o : List ℕ) → lacks 10 p ≡ true → lacks 10 o ≡ true → lacks 10 (against_row p o) ≡ true
unfolding against_row
against_row-lacks p o h k = lacks-append 10 p (codes " against " ++ (o ++ codes ".")) h
    (lacks-append 10 (codes " against ") (o ++ codes ".") refl (lacks-append 10 o (codes ".") k refl))

-- ---- whose turn it is, and what the player is to do

-- what is said of a double that is offered has no line end
offered-lacks : (others : Bool) (p o : List ℕ) → lacks 10 p ≡ true → lacks 10 o ≡ true
    → lacks 10 (offered_said others p o) ≡ true
unfolding offered_said
offered-lacks false p o h k = lacks-append 10 p (codes " is offered a double.") h refl
offered-lacks true p o h k = lacks-append 10 o (codes "'s turn, and " ++ (p ++ codes " is offered a double.")) k
    (lacks-append 10 (codes "'s turn, and ") (p ++ codes " is offered a double.") refl
    (lacks-append 10 p (codes " is offered a double.") h refl))

-- whose turn it is, by name, has no line end
pub turn_named-lacks : (others : Bool) (ph : Phase) (p o : List ℕ) → lacks 10 p ≡ true → lacks 10 o ≡ true
    → lacks 10 (turn_named others ph p o) ≡ true
unfolding turn_named
turn_named-lacks others phase.Over p o h k = refl
turn_named-lacks others phase.AnswerDouble p o h k = offered-lacks others p o h k
turn_named-lacks others phase.OpponentActs p o h k = lacks-append 10 o (codes "'s turn.") k refl
turn_named-lacks others phase.RollOrDouble p o h k = lacks-append 10 p (codes " to roll.") h refl
turn_named-lacks others phase.Move p o h k = lacks-append 10 p (codes " to move.") h refl
turn_named-lacks others phase.Passing p o h k = lacks-append 10 p (codes " can't move.") h refl

-- the first word of the row
abbrev first_word : Bool → Phase → List ℕ → List ℕ → List ℕ
first_word others phase.Over p o = codes "The"
first_word others phase.AnswerDouble p o = cond others (o ++ codes "'s") p
first_word others phase.OpponentActs p o = o ++ codes "'s"
first_word others phase.RollOrDouble p o = p
first_word others phase.Move p o = p
first_word others phase.Passing p o = p

-- what follows it
abbrev other_words : Bool → Phase → List ℕ → List ℕ
other_words others phase.Over p = codes "game is over."
other_words others phase.AnswerDouble p =
    cond others (codes "turn, and " ++ (p ++ codes " is offered a double.")) (codes "is offered a double.")
other_words others phase.OpponentActs p = codes "turn."
other_words others phase.RollOrDouble p = codes "to roll."
other_words others phase.Move p = codes "to move."
other_words others phase.Passing p = codes "can't move."

-- a row is its first word, a space, and the others
in-words : (others : Bool) (ph : Phase) (p o : List ℕ)
    → turn_named others ph p o ≡ first_word others ph p o ++ (32 ∷ other_words others ph p)
unfolding turn_named offered_said
in-words others phase.Over p o = refl
in-words true phase.AnswerDouble p o =
    sym (append_assoc o (codes "'s") (32 ∷ (codes "turn, and " ++ (p ++ codes " is offered a double."))))
in-words false phase.AnswerDouble p o = refl
in-words others phase.OpponentActs p o = sym (append_assoc o (codes "'s") (codes " turn."))
in-words others phase.RollOrDouble p o = refl
in-words others phase.Move p o = refl
in-words others phase.Passing p o = refl

-- the first word has no space
first-lacks : (others : Bool) (ph : Phase) (p o : List ℕ) → lacks 32 p ≡ true → lacks 32 o ≡ true
    → lacks 32 (first_word others ph p o) ≡ true
first-lacks others phase.Over p o h k = refl
first-lacks true phase.AnswerDouble p o h k = lacks-append 32 o (codes "'s") k refl
first-lacks false phase.AnswerDouble p o h k = h
first-lacks others phase.OpponentActs p o h k = lacks-append 32 o (codes "'s") k refl
first-lacks others phase.RollOrDouble p o h k = h
first-lacks others phase.Move p o h k = h
first-lacks others phase.Passing p o h k = h

-- the phase is known by three letters of the other words
abbrev phase_read : List ℕ → Phase
phase_read text = let letter : ℕ → ℕ = λ i. slice_index_or text i 0 in cond (letter 0 == 103) phase.Over (cond
    (letter 0 == 105) phase.AnswerDouble (cond (letter 0 == 99) phase.Passing (cond (letter 4 == 44) phase.AnswerDouble
    (cond (letter 4 == 46) phase.OpponentActs (cond (letter 3 == 114) phase.RollOrDouble phase.Move)))))

-- and whether it is the opponent's turn to whose opponent a double is offered
abbrev offer_read : List ℕ → Bool
offer_read text = slice_index_or text 4 0 == 44

-- a double is offered to the player, and the turn is not his
abbrev pub offered_to : Bool → Phase → Bool
offered_to others phase.Over = false
offered_to others phase.AnswerDouble = others
offered_to others phase.OpponentActs = false
offered_to others phase.RollOrDouble = false
offered_to others phase.Move = false
offered_to others phase.Passing = false

-- the phase, and whether a double is offered, are read in the words behind the name
phase-read : (others : Bool) (ph : Phase) (p : List ℕ)
    → (phase_read (other_words others ph p) ≡ ph) × (offer_read (other_words others ph p) ≡ offered_to others ph)
phase-read others phase.Over p = (refl, refl)
phase-read true phase.AnswerDouble p = (refl, refl)
phase-read false phase.AnswerDouble p = (refl, refl)
phase-read others phase.OpponentActs p = (refl, refl)
phase-read others phase.RollOrDouble p = (refl, refl)
phase-read others phase.Move p = (refl, refl)
phase-read others phase.Passing p = (refl, refl)

-- a row determines the phase, and whose turn it is if a double is offered
pub turn_named-tells : (x y : Bool) (ph qh : Phase) (p o p' o' : List ℕ)
    → lacks 32 p ≡ true → lacks 32 o ≡ true → lacks 32 p' ≡ true → lacks 32 o' ≡ true
    → turn_named x ph p o ≡ turn_named y qh p' o' → (ph ≡ qh) × (offered_to x ph ≡ offered_to y qh)
turn_named-tells x y ph qh p o p' o' h k h' k' e =
    let words = ends-tell 32 (first_word x ph p o) (first_word y qh p' o') (other_words x ph p) (other_words y qh p')
    (first-lacks x ph p o h k) (first-lacks y qh p' o' h' k')
    (sym (in-words x ph p o) ∙ e ∙ in-words y qh p' o') in
    let left = phase-read x ph p in
    let right = phase-read y qh p' in
    (sym left.0 ∙ ap phase_read words.1 ∙ right.0, sym left.1 ∙ ap offer_read words.1 ∙ right.1)

-- ---- the dice

-- what is said of two dice, by whether they are shown
abbrev dice_text : Bool → ℕ → ℕ → List ℕ
dice_text none m n = cond none (codes "none") (pair m n)

-- two dice, or none, have no line end
dice_text-lacks : (none : Bool) (m n : ℕ) → lacks 10 (dice_text none m n) ≡ true
unfolding pair
dice_text-lacks true m n = refl
dice_text-lacks false m n = rw (digit-plain m, digit-plain n) refl

-- the dice of a side have no line end
pub dice_said-lacks : (m n : ℕ) → lacks 10 (dice_said m n) ≡ true
unfolding dice_said
dice_said-lacks m n = dice_text-lacks ((m == 0) && (n == 0)) m n

-- the row of both sides' dice has no line end
pub dice_named-lacks : (p own o other : List ℕ) → lacks 10 p ≡ true → lacks 10 own ≡ true → lacks 10 o ≡ true
    → lacks 10 other ≡ true → lacks 10 (dice_named p own o other) ≡ true
unfolding dice_named
dice_named-lacks p own o other h i j k =
    let third = lacks-append 10 other (codes ".") k refl in
    let second = lacks-append 10 o (codes "'s " ++ (other ++ codes ".")) j
    (lacks-append 10 (codes "'s ") (other ++ codes ".") refl third) in
    let first = lacks-append 10 own (codes ", " ++ (o ++ (codes "'s " ++ (other ++ codes ".")))) i
    (lacks-append 10 (codes ", ") (o ++ (codes "'s " ++ (other ++ codes "."))) refl second) in
    let dice = own ++ (codes ", " ++ (o ++ (codes "'s " ++ (other ++ codes ".")))) in
    lacks-append 10 p (codes "'s dice " ++ dice) h (lacks-append 10 (codes "'s dice ") dice refl first)

-- the dice have no comma
digit-other : (n : ℕ) → not ((48 + n) == 44) ≡ true
digit-other n = grind (arith, nat_tests)

-- two dice, or none, have no comma
comma_text-lacks : (none : Bool) (m n : ℕ) → lacks 44 (dice_text none m n) ≡ true
unfolding pair
comma_text-lacks true m n = refl
comma_text-lacks false m n = rw (digit-other m, digit-other n) refl

-- the dice of a side have no comma
pub comma-lacks : (m n : ℕ) → lacks 44 (dice_said m n) ≡ true
unfolding dice_said
comma-lacks m n = comma_text-lacks ((m == 0) && (n == 0)) m n

-- the dice are read at their places, if the second letter is not o
abbrev die_read : ℕ → List ℕ → ℕ
die_read i text = cond (slice_index_or text 1 0 == 111) 0 (slice_index_or text i 0 - 48)

-- two dice are known by what is said of them
dice-read : (none : Bool) (m n : ℕ) → none ≡ ((m == 0) && (n == 0))
    → (die_read 0 (dice_text none m n) ≡ m) × (die_read 6 (dice_text none m n) ≡ n)
unfolding pair
dice-read true m n h = let own = and_parts (m == 0) (n == 0) (sym h) in
    (sym (is-zero m own.0), sym (is-zero n own.1))
dice-read false m n h = (less m, less n)

-- what is said of two dice determines them
pub dice_said-tells : (m n m' n' : ℕ) → dice_said m n ≡ dice_said m' n' → (m ≡ m') × (n ≡ n')
unfolding dice_said
dice_said-tells m n m' n' e =
    let a = dice-read ((m == 0) && (n == 0)) m n refl in
    let b = dice-read ((m' == 0) && (n' == 0)) m' n' refl in
    (sym a.0 ∙ ap (die_read 0) e ∙ b.0, sym a.1 ∙ ap (die_read 6) e ∙ b.1)

-- a name with 's has no space
named-lacks : (p : List ℕ) → lacks 32 p ≡ true → lacks 32 (p ++ codes "'s") ≡ true
named-lacks p h = lacks-append 32 p (codes "'s") h refl

-- a row determines what is said of the dice of both
pub dice_named-tells : (p own o other p' own' o' other' : List ℕ)
    → lacks 32 p ≡ true → lacks 32 o ≡ true → lacks 32 p' ≡ true → lacks 32 o' ≡ true
    → lacks 44 own ≡ true → lacks 44 own' ≡ true
    → dice_named p own o other ≡ dice_named p' own' o' other' → (own ≡ own') × (other ≡ other')
unfolding dice_named
dice_named-tells p own o other p' own' o' other' h k h' k' i i' e =
    let after = λ (name : List ℕ) (text : List ℕ). append_assoc name (codes "'s") (32 ∷ text) in
    let first = ends-tell 32 (p ++ codes "'s") (p' ++ codes "'s") _ _ (named-lacks p h) (named-lacks p' h')
    (after p _ ∙ e ∙ sym (after p' _)) in
    let dice = ends-tell 44 own own' _ _ i i' (append_cancel_left (codes "dice ") _ _ first.1) in
    let second = ends-tell 32 (o ++ codes "'s") (o' ++ codes "'s") _ _ (named-lacks o k) (named-lacks o' k')
    (after o _ ∙ append_cancel_left (codes " ") _ _ dice.1 ∙ sym (after o' _)) in
    (dice.0, append_cancel_right other other' (codes ".") second.1)

-- ---- the cube

-- who may double, by name, has no line end
owner-lacks : (a b : Bool) (p o : List ℕ) → lacks 10 p ≡ true → lacks 10 o ≡ true
    → lacks 10 (owner_said a b p o) ≡ true
unfolding owner_said
owner-lacks true true p o h k = refl
owner-lacks true false p o h k = lacks-append 10 p (codes "'s.") h refl
owner-lacks false true p o h k = lacks-append 10 o (codes "'s, not " ++ (p ++ codes "'s.")) k
    (lacks-append 10 (codes "'s, not ") (p ++ codes "'s.") refl (lacks-append 10 p (codes "'s.") h refl))
owner-lacks false false p o h k = refl

-- the row of the cube has no line end
pub cube_named-lacks : (b : BoardFields) (p o : List ℕ) → Within 1048576 (field_of b 38) → lacks 10 p ≡ true
    → lacks 10 o ≡ true → lacks 10 (cube_named b p o) ≡ true
unfolding cube_named
cube_named-lacks b p o w h k =
    let who = owner_said (is_one b 39) (is_one b 40) p o in
    lacks-append 10 (codes "Cube ") (signed_decimal (field_of b 38) ++ who) refl
    (lacks-append 10 (signed_decimal (field_of b 38)) who
    (number-lacks 10 1048576 (field_of b 38) (lit< tt) (lit< tt) w) (owner-lacks (is_one b 39) (is_one b 40) p o h k))

-- who may double: the first word after the comma, and the others
abbrev owner_word : Bool → Bool → List ℕ → List ℕ → List ℕ
owner_word true true p o = codes "in"
owner_word true false p o = p ++ codes "'s."
owner_word false true p o = o ++ codes "'s,"
owner_word false false p o = codes "no"

-- the words behind the first, and a space
abbrev owner_words : Bool → Bool → List ℕ → List ℕ
owner_words true true p = codes "the middle. "
owner_words true false p = []
owner_words false true p = codes "not " ++ (p ++ codes "'s. ")
owner_words false false p = codes "doubling. "

-- what is said of who may double, and a space
owner-in-words : (a b : Bool) (p o : List ℕ)
    → owner_said a b p o ++ codes " " ≡ 44 ∷ 32 ∷ (owner_word a b p o ++ (32 ∷ owner_words a b p))
unfolding owner_said
owner-in-words true true p o = refl
owner-in-words true false p o = ap (λ t. 44 ∷ 32 ∷ t)
    (append_assoc p (codes "'s.") (codes " ") ∙ sym (append_assoc p (codes "'s.") (codes " ")))
owner-in-words false true p o = ap (λ t. 44 ∷ 32 ∷ t)
    (append_assoc o (codes "'s, not " ++ (p ++ codes "'s.")) (codes " ")
    ∙ ap (λ t. o ++ (codes "'s, not " ++ t)) (append_assoc p (codes "'s.") (codes " "))
    ∙ sym (append_assoc o (codes "'s,") (32 ∷ (codes "not " ++ (p ++ codes "'s. ")))))
owner-in-words false false p o = refl

-- the first word has no space if no name has one
owner_word-lacks : (a b : Bool) (p o : List ℕ) → lacks 32 p ≡ true → lacks 32 o ≡ true
    → lacks 32 (owner_word a b p o) ≡ true
owner_word-lacks true true p o h k = refl
owner_word-lacks true false p o h k = lacks-append 32 p (codes "'s.") h refl
owner_word-lacks false true p o h k = lacks-append 32 o (codes "'s,") k refl
owner_word-lacks false false p o h k = refl

-- who may double is known by the first letter of the other words
abbrev own_read : List ℕ → Bool
own_read text = cond (slice_index_or text 0 0 == 0) true (slice_index_or text 0 0 == 116)

abbrev other_read : List ℕ → Bool
other_read text = cond (slice_index_or text 0 0 == 110) true (slice_index_or text 0 0 == 116)

-- who may double is read in the words behind the first
owner-read : (a b : Bool) (p : List ℕ) → (own_read (owner_words a b p) ≡ a) × (other_read (owner_words a b p) ≡ b)
owner-read true true p = (refl, refl)
owner-read true false p = (refl, refl)
owner-read false true p = (refl, refl)
owner-read false false p = (refl, refl)

-- equal words are of the same side, or sides, that may double
owner-tells : (a b c d : Bool) (p o p' o' : List ℕ)
    → lacks 32 p ≡ true → lacks 32 o ≡ true → lacks 32 p' ≡ true → lacks 32 o' ≡ true
    → owner_said a b p o ++ codes " " ≡ owner_said c d p' o' ++ codes " " → (a ≡ c) × (b ≡ d)
owner-tells a b c d p o p' o' h k h' k' e =
    let both = sym (owner-in-words a b p o) ∙ e ∙ owner-in-words c d p' o' in
    let words = ends-tell 32 (owner_word a b p o) (owner_word c d p' o') (owner_words a b p) (owner_words c d p')
    (owner_word-lacks a b p o h k) (owner_word-lacks c d p' o' h' k')
    (append_cancel_left (codes ", ") _ _ both) in
    let x = owner-read a b p in
    let y = owner-read c d p' in
    (sym x.0 ∙ ap own_read words.1 ∙ y.0, sym x.1 ∙ ap other_read words.1 ∙ y.1)

-- what follows the comma
abbrev after_comma : Bool → Bool → List ℕ → List ℕ → List ℕ
after_comma true true p o = codes " in the middle."
after_comma true false p o = 32 ∷ (p ++ codes "'s.")
after_comma false true p o = 32 ∷ (o ++ (codes "'s, not " ++ (p ++ codes "'s.")))
after_comma false false p o = codes " no doubling."

-- what is said of who may double begins with a comma
pub owner-comma : (a b : Bool) (p o : List ℕ) → owner_said a b p o ≡ 44 ∷ after_comma a b p o
unfolding owner_said
owner-comma true true p o = refl
owner-comma true false p o = refl
owner-comma false true p o = refl
owner-comma false false p o = refl

abbrev cube_text : ℤ → Bool → Bool → List ℕ → List ℕ → List ℕ
cube_text z a b p o = codes "Cube " ++ (signed_decimal z ++ owner_said a b p o)

-- equal rows are of the same cube, and of the same sides that may double
cube_text-tells : (y z : ℤ) (a b c d : Bool) (p o p' o' : List ℕ)
    → lacks 32 p ≡ true → lacks 32 o ≡ true → lacks 32 p' ≡ true → lacks 32 o' ≡ true
    → Within 1048576 y → Within 1048576 z
    → cube_text y a b p o ≡ cube_text z c d p' o' → (y ≡ z) × (a ≡ c) × (b ≡ d)
cube_text-tells y z a b c d p o p' o' h k h' k' w w' e =
    let commas : signed_decimal y ++ (44 ∷ after_comma a b p o) ≡ signed_decimal z ++ (44 ∷ after_comma c d p' o') =
    ap (λ t. signed_decimal y ++ t) (sym (owner-comma a b p o)) ∙ append_cancel_left (codes "Cube ") _ _ e
    ∙ ap (λ t. signed_decimal z ++ t) (owner-comma c d p' o') in
    let parts = ends-tell 44 (signed_decimal y) (signed_decimal z) (after_comma a b p o) (after_comma c d p' o')
    (number-lacks 44 1048576 y (lit< tt) (lit< tt) w) (number-lacks 44 1048576 z (lit< tt) (lit< tt) w') commas in
    let said : owner_said a b p o ≡ owner_said c d p' o' =
    owner-comma a b p o ∙ ap (λ t. 44 ∷ t) parts.1 ∙ sym (owner-comma c d p' o') in
    let who = owner-tells a b c d p o p' o' h k h' k' (ap (λ t. t ++ codes " ") said) in
    (number-tells 1048576 y z (lit< tt) w w' parts.0, who.0, who.1)

-- a row determines what the cube shows, and who may double
pub cube_named-tells : (a b : BoardFields) (p o p' o' : List ℕ)
    → lacks 32 p ≡ true → lacks 32 o ≡ true → lacks 32 p' ≡ true → lacks 32 o' ≡ true
    → Within 1048576 (field_of a 38) → Within 1048576 (field_of b 38) → cube_named a p o ≡ cube_named b p' o'
    → (field_of a 38 ≡ field_of b 38) × (is_one a 39 ≡ is_one b 39) × (is_one a 40 ≡ is_one b 40)
unfolding cube_named
cube_named-tells a b p o p' o' h k h' k' w w' e =
    cube_text-tells (field_of a 38) (field_of b 38) (is_one a 39) (is_one a 40) (is_one b 39) (is_one b 40)
    p o p' o' h k h' k' w w' e

-- ---- the direction

-- the direction in words has no line end
way-lacks : (d : Direction) → lacks 10 (way_said d) ≡ true
way-lacks Down = refl
way-lacks Up = refl

-- the row of the direction has no line end
pub way_row-lacks : (p : List ℕ) (d : Direction) → lacks 10 p ≡ true → lacks 10 (p ++ way_said d) ≡ true
way_row-lacks p d h = lacks-append 10 p (way_said d) h (way-lacks d)

-- what follows the space
abbrev way_words : Direction → List ℕ
way_words Down = codes "goes down, from 24 to 1."
way_words Up = codes "goes up, from 1 to 24."

-- the direction in words begins with a space
way-space : (d : Direction) → way_said d ≡ 32 ∷ way_words d
way-space Down = refl
way-space Up = refl

-- it is known by its sixth letter
abbrev way_read : List ℕ → Direction
way_read text = cond (slice_index_or text 5 0 == 100) Down Up

-- the direction is read in the words behind that space
way-read : (d : Direction) → way_read (way_words d) ≡ d
way-read Down = refl
way-read Up = refl

-- a row determines the direction
pub way_row-tells : (p p' : List ℕ) (d d' : Direction) → lacks 32 p ≡ true → lacks 32 p' ≡ true
    → p ++ way_said d ≡ p' ++ way_said d' → d ≡ d'
way_row-tells p p' d d' h h' e =
    let words = ends-tell 32 p p' (way_words d) (way_words d') h h'
    (ap (λ t. p ++ t) (sym (way-space d)) ∙ e ∙ ap (λ t. p' ++ t) (way-space d')) in
    sym (way-read d) ∙ ap way_read words.1 ∙ way-read d'
