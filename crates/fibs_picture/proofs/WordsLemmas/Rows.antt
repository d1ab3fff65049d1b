-- Equal rows on the game say the same.
use Rattle.std.proofs.Common.{◌≡◌, ◌<◌, ◌+◌, ◌-◌, ◌==◌, ◌&&◌, ◌++◌, ℕ, zero, Bool, true, false, cond, List, [], ◌∷◌, length, codes, refl, sym, ◌∙◌, ap, arith, lit<, append_assoc}
use Rattle.std.specs.Prelude.{ℤ, slice_index_or}
use Rattle.std.specs.Fmt.{signed_decimal}
use Rattle.std.specs.List.{flat_map}
use Rattle.std.proofs.lemmas.Bool.{and_parts}
use Rattle.std.proofs.lemmas.List.{append_cancel_left, append_cancel_right}
use Rattle.fibs_fields.specs.Board.{BoardFields, field_of}
use Rattle.fibs_position.specs.declared.direction.Direction.{Direction}
use Rattle.fibs_position.specs.declared.direction.Direction.TheVariants.{Down, Up}
use Rattle.fibs_position.specs.declared.phase.Phase.{Phase}
use Rattle.fibs_position.specs.declared.phase.Phase.TheVariants as phase
use Rattle.fibs_picture.specs.Fits.{ended}
use Rattle.fibs_picture.specs.Picture.{cube, is_one, match_length}
use Rattle.fibs_picture.specs.Told.{Whose, nobodys, the_players, the_opponents}
use Rattle.fibs_picture.proofs.PictureLemmas.Parts.{lacks, lacks-append, ends-tell}
use Rattle.fibs_picture.proofs.PictureLemmas.Notes.{number-lacks, match-lacks, match-tells, cube-lacks, cube-tells, digit-plain, is-zero}
use Rattle.fibs_picture.proofs.PictureLemmas.Ranges.{Within, number-tells}
use Rattle.fibs_picture.specs.InWords.Words.{whose, turn_said, phase_said, turn_row, pair, dice_row, score_row, cube_shows, cube_row, direction_row}

-- ---- rows are known from each other

-- no row has a line end within it
abbrev pub Plain : List (List ℕ) → Type 0
Plain [] = Unit {0}
Plain (row ∷ rows) = (lacks 10 row ≡ true) × Plain rows

-- a row with its end and what follows is the row, its end, and what follows
ended-parts : (row u : List ℕ) → ended row ++ u ≡ row ++ (10 ∷ u)
ended-parts row u = append_assoc row (10 ∷ []) u

-- as many rows of plain text that are the same in a row are the same each, and the same follows
pub rows-tell : (rows others : List (List ℕ)) (u v : List ℕ) → length rows ≡ length others → Plain rows → Plain others
    → flat_map ended rows ++ u ≡ flat_map ended others ++ v → (rows ≡ others) × (u ≡ v)
rows-tell [] [] u v h p q e = (refl, e)
rows-tell [] (o ∷ others) u v h p q e = absurd (omega (arith, h))
rows-tell (r ∷ rows) [] u v h p q e = absurd (omega (arith, h))
rows-tell (r ∷ rows) (o ∷ others) u v h p q e =
    let left = append_assoc (ended r) (flat_map ended rows) u ∙ ended-parts r (flat_map ended rows ++ u) in
    let right = append_assoc (ended o) (flat_map ended others) v ∙ ended-parts o (flat_map ended others ++ v) in
    let first = ends-tell 10 r o _ _ p.0 q.0 (sym left ∙ e ∙ right) in
    let rest = rows-tell rows others u v (omega (arith, h)) p.1 q.1 first.1 in
    let here : r ≡ o = first.0 in
    let there : rows ≡ others = rest.0 in
    ((cc), rest.1)

-- ---- whose turn it is, and what the player is to do

-- whose turn it is has no line end
turn_said-lacks : (w : Whose) → lacks 10 (turn_said w) ≡ true
turn_said-lacks nobodys = refl
turn_said-lacks the_players = refl
turn_said-lacks the_opponents = refl

-- what the player is to do has no line end
phase_said-lacks : (p : Phase) → lacks 10 (phase_said p) ≡ true
phase_said-lacks phase.Over = refl
phase_said-lacks phase.AnswerDouble = refl
phase_said-lacks phase.OpponentActs = refl
phase_said-lacks phase.RollOrDouble = refl
phase_said-lacks phase.Move = refl
phase_said-lacks phase.Passing = refl

-- the row of the turn has no line end
pub turn_row-lacks : (w : Whose) (p : Phase) → lacks 10 (turn_row w p) ≡ true
unfolding turn_row
turn_row-lacks w p = lacks-append 10 (turn_said w) (phase_said p) (turn_said-lacks w) (phase_said-lacks p)

-- the turn is known by its first letter
abbrev whose_read : List ℕ → Whose
whose_read text = cond (slice_index_or text 0 0 == 78) nobodys (cond
    (slice_index_or text 0 0 == 89) the_players the_opponents)

-- whose turn it is is read back from its words
whose-read : (w : Whose) (rest : List ℕ) → whose_read (turn_said w ++ rest) ≡ w
whose-read nobodys rest = refl
whose-read the_players rest = refl
whose-read the_opponents rest = refl

-- a phase by one of its letters
abbrev phase_read : List ℕ → Phase
phase_read text = let letter : ℕ → ℕ = λ i. slice_index_or text i 0 in cond (letter 0 == 46) phase.OpponentActs (cond
    (letter 2 == 97) phase.AnswerDouble (cond (letter 2 == 98) phase.Passing (cond (letter 3 == 104) phase.Over (cond
    (letter 5 == 114) phase.RollOrDouble phase.Move))))

-- the phase is read back from its words
phase-read : (p : Phase) → phase_read (phase_said p) ≡ p
phase-read phase.Over = refl
phase-read phase.AnswerDouble = refl
phase-read phase.OpponentActs = refl
phase-read phase.RollOrDouble = refl
phase-read phase.Move = refl
phase-read phase.Passing = refl

-- equal rows are of the same turn and the same phase
pub turn_row-tells : (w v : Whose) (p q : Phase) → turn_row w p ≡ turn_row v q → (w ≡ v) × (p ≡ q)
unfolding turn_row
turn_row-tells w v p q e =
    let whose_same : w ≡ v =
    sym (whose-read w (phase_said p)) ∙ ap whose_read e ∙ whose-read v (phase_said q) in
    let phases : phase_said p ≡ phase_said q = append_cancel_left (turn_said w) (phase_said p) (phase_said q)
    (e ∙ ap (λ t. turn_said t ++ phase_said q) (sym whose_same)) in
    (whose_same, sym (phase-read p) ∙ ap phase_read phases ∙ phase-read q)

-- ---- the dice

-- what is told of the dice, by whether they are shown
abbrev dice_text : Bool → Bool → ℕ → ℕ → ℕ → ℕ → List ℕ
dice_text none other_none m n k l = cond none
    (cond other_none (codes "No dice.") (codes "The opponent's dice " ++ (pair k l ++ codes ".")))
    (codes "Your dice " ++ (pair m n ++ cond other_none (codes ".") (codes ", the opponent's " ++ (pair k l
    ++ codes "."))))

-- the dice of both sides, or none, have no line end
dice_text-lacks : (none other_none : Bool) (m n k l : ℕ) → lacks 10 (dice_text none other_none m n k l) ≡ true
unfolding pair
dice_text-lacks true true m n k l = refl
dice_text-lacks true false m n k l = rw (digit-plain k, digit-plain l) refl
dice_text-lacks false true m n k l = rw (digit-plain m, digit-plain n) refl
dice_text-lacks false false m n k l = rw (digit-plain m, digit-plain n, digit-plain k, digit-plain l) refl

-- the row of the dice has no line end
pub dice_row-lacks : (m n k l : ℕ) → lacks 10 (dice_row m n k l) ≡ true
unfolding dice_row
dice_row-lacks m n k l = dice_text-lacks ((m == 0) && (n == 0)) ((k == 0) && (l == 0)) m n k l

-- the player's dice are read at their places, if the row begins with his
abbrev own_read : ℕ → List ℕ → ℕ
own_read i text = cond (slice_index_or text 0 0 == 89) (slice_index_or text i 0 - 48) 0

-- and the opponent's
abbrev other_read : ℕ → ℕ → List ℕ → ℕ
other_read i j text = cond (slice_index_or text 0 0 == 84) (slice_index_or text i 0 - 48)
    (cond (slice_index_or text 0 0 == 89) (slice_index_or text j 48 - 48) 0)

-- a digit's byte less that of 0 is the digit
pub less : (n : ℕ) → (48 + n) - 48 ≡ n
less n = omega arith

record DiceRead (text : List ℕ) (m n k l : ℕ) : Type 0 where
  first : own_read 10 text ≡ m
  second : own_read 16 text ≡ n
  other_first : other_read 20 34 text ≡ k
  other_second : other_read 26 40 text ≡ l

-- the dice are read back from their words
dice-read : (none other_none : Bool) (m n k l : ℕ) → none ≡ ((m == 0) && (n == 0))
    → other_none ≡ ((k == 0) && (l == 0)) → DiceRead (dice_text none other_none m n k l) m n k l
unfolding pair
dice-read true true m n k l h i =
    let own = and_parts (m == 0) (n == 0) (sym h) in
    let other = and_parts (k == 0) (l == 0) (sym i) in
    record {
      first = sym (is-zero m own.0);
      second = sym (is-zero n own.1);
      other_first = sym (is-zero k other.0);
      other_second = sym (is-zero l other.1);
    }
dice-read true false m n k l h i =
    let own = and_parts (m == 0) (n == 0) (sym h) in
    record {
      first = sym (is-zero m own.0);
      second = sym (is-zero n own.1);
      other_first = less k;
      other_second = less l;
    }
dice-read false true m n k l h i =
    let other = and_parts (k == 0) (l == 0) (sym i) in
    record {
      first = less m;
      second = less n;
      other_first = sym (is-zero k other.0);
      other_second = sym (is-zero l other.1);
    }
dice-read false false m n k l h i = record {
  first = less m;
  second = less n;
  other_first = less k;
  other_second = less l;
}

-- the dice are read back from their row
dice-of : (m n k l : ℕ) → DiceRead (dice_row m n k l) m n k l
unfolding dice_row
dice-of m n k l = dice-read ((m == 0) && (n == 0)) ((k == 0) && (l == 0)) m n k l refl refl

-- equal rows are of the same dice
pub dice_row-tells : (m n k l m' n' k' l' : ℕ) → dice_row m n k l ≡ dice_row m' n' k' l'
    → (m ≡ m') × (n ≡ n') × (k ≡ k') × (l ≡ l')
dice_row-tells m n k l m' n' k' l' e = let a = dice-of m n k l in let b = dice-of m' n' k' l' in (
  sym a.first ∙ ap (own_read 10) e ∙ b.first,
  sym a.second ∙ ap (own_read 16) e ∙ b.second,
  sym a.other_first ∙ ap (other_read 20 34) e ∙ b.other_first,
  sym a.other_second ∙ ap (other_read 26 40) e ∙ b.other_second,
)

-- ---- the score

-- a text without a line end has none with a stop either
stopped-lacks : (text : List ℕ) → lacks 10 text ≡ true → lacks 10 (text ++ codes ".") ≡ true
stopped-lacks text h = lacks-append 10 text (codes ".") h refl

-- the row of the score has no line end
pub score_row-lacks : (own other match : ℤ) → Within 99999999 own → Within 99999999 other → Within 9999 match
    → lacks 10 (score_row own other match) ≡ true
unfolding score_row
score_row-lacks own other match h k l =
    let length_said : List ℕ = match_length match ++ codes "." in
    let after_other : List ℕ = codes ", " ++ length_said in
    let other_said : List ℕ = signed_decimal other ++ after_other in
    let after_own : List ℕ = codes " to " ++ other_said in
    lacks-append 10 (codes "Score ") (signed_decimal own ++ after_own) refl
    (lacks-append 10 (signed_decimal own) after_own (number-lacks 10 99999999 own (lit< tt) (lit< tt) h)
    (lacks-append 10 (codes " to ") other_said refl
    (lacks-append 10 (signed_decimal other) after_other (number-lacks 10 99999999 other (lit< tt) (lit< tt) k)
    (lacks-append 10 (codes ", ") length_said refl (stopped-lacks (match_length match) (match-lacks match l))))))

-- equal rows are of the same scores and the same length
pub score_row-tells : (own other match own' other' match' : ℤ)
    → Within 99999999 own → Within 99999999 other → Within 9999 match
    → Within 99999999 own' → Within 99999999 other' → Within 9999 match'
    → score_row own other match ≡ score_row own' other' match' → (own ≡ own') × (other ≡ other') × (match ≡ match')
unfolding score_row
score_row-tells own other match own' other' match' h k l h' k' l' e =
    let first = ends-tell 32 (signed_decimal own) (signed_decimal own') _ _
    (number-lacks 32 99999999 own (lit< tt) (lit< tt) h) (number-lacks 32 99999999 own' (lit< tt) (lit< tt) h')
    (append_cancel_left (codes "Score ") _ _ e) in
    let second = ends-tell 44 (signed_decimal other) (signed_decimal other') _ _
    (number-lacks 44 99999999 other (lit< tt) (lit< tt) k) (number-lacks 44 99999999 other' (lit< tt) (lit< tt) k')
    (append_cancel_left (codes "to ") _ _ first.1) in
    let third = append_cancel_right (match_length match) (match_length match') (codes ".")
    (append_cancel_left (codes " ") _ _ second.1) in (
      number-tells 99999999 own own' (lit< tt) h h' first.0,
      number-tells 99999999 other other' (lit< tt) k k' second.0,
      match-tells match match' l l' third,
    )

-- ---- the cube

-- what the cube shows has no line end
cube_shows-lacks : (b : BoardFields) → Within 1048576 (field_of b 38) → lacks 10 (cube_shows b) ≡ true
unfolding cube
cube_shows-lacks b h = cube-lacks b h

-- the row of the cube has no line end
pub cube_row-lacks : (b : BoardFields) → Within 1048576 (field_of b 38) → lacks 10 (cube_row b) ≡ true
unfolding cube_row
cube_row-lacks b h = lacks-append 10 (codes "Cube ") (cube_shows b ++ codes ".") refl
    (stopped-lacks (cube_shows b) (cube_shows-lacks b h))

-- what the cube shows is the same in a picture if it is in words
same-cube : (a b : BoardFields) → cube_shows a ≡ cube_shows b → cube a ≡ cube b
unfolding cube
same-cube a b e = ap (λ t. codes "cube " ++ t) e

-- equal rows are of cubes that show the same
shows-tell : (a b : BoardFields) → cube_row a ≡ cube_row b → cube_shows a ≡ cube_shows b
unfolding cube_row
shows-tell a b e = append_cancel_right (cube_shows a) (cube_shows b) (codes ".")
    (append_cancel_left (codes "Cube ") _ _ e)

-- equal rows are of the same cube and the same doublers
pub cube_row-tells : (a b : BoardFields) → Within 1048576 (field_of a 38) → Within 1048576 (field_of b 38)
    → cube_row a ≡ cube_row b
    → (field_of a 38 ≡ field_of b 38) × (is_one a 39 ≡ is_one b 39) × (is_one a 40 ≡ is_one b 40)
cube_row-tells a b h k e = cube-tells a b h k (same-cube a b (shows-tell a b e))

-- ---- the direction

-- the row of the direction has no line end
pub direction_row-lacks : (d : Direction) → lacks 10 (direction_row d) ≡ true
direction_row-lacks Down = refl
direction_row-lacks Up = refl

-- it is known by its eighth letter
abbrev direction_read : List ℕ → Direction
direction_read text = cond (slice_index_or text 7 0 == 100) Down Up

-- the direction is read back from its row
direction-read : (d : Direction) → direction_read (direction_row d) ≡ d
direction-read Down = refl
direction-read Up = refl

-- equal rows are of the same direction
pub direction_row-tells : (d e : Direction) → direction_row d ≡ direction_row e → d ≡ e
direction_row-tells d e h = sym (direction-read d) ∙ ap direction_read h ∙ direction-read e
