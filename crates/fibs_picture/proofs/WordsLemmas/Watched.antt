-- The words of a watched board determine it, with both names.
use Rattle.std.proofs.Common.{◌≡◌, ◌<◌, ◌+◌, ◌-◌, ◌^◌, ◌==◌, ◌&&◌, ◌++◌, ℕ, Bool, true, false, not, cond, List, [], ◌∷◌, codes, take, refl, sym, ◌∙◌, ap, subst, arith, lit<, append_assoc}
use Rattle.std.specs.Prelude.{ℤ, pos, negsuc, decimal, Option, Some, None, is_none, unwrap_or}
use Rattle.std.specs.Fmt.{signed_decimal}
use Rattle.std.specs.Ordering.{int_eq}
use Rattle.std.proofs.lemmas.Bool.{and_parts, false≢true}
use Rattle.std.proofs.lemmas.Int.{ints}
use Rattle.fibs_fields.specs.Board.{BoardFields, IsBoard, field_of}
use Rattle.fibs_fields.specs.FieldRanges.{FieldRanges}
use Rattle.fibs_fields.specs.FieldReading.{natural}
use Rattle.fibs_rules.specs.Runs.{can_move}
use Rattle.fibs_position.specs.OwnView.{turn, colour}
use Rattle.fibs_position.specs.Phases.{phase_in}
use Rattle.fibs_position.specs.PositionValue.{position_of}
use Rattle.fibs_position.specs.Watched.{IsWatched}
use Rattle.fibs_position.specs.declared.direction.Direction.{Direction}
use Rattle.fibs_position.specs.declared.direction.Direction.TheVariants.{Down, Up}
use Rattle.fibs_position.specs.declared.numbers.Numbers.{Numbers}
use Rattle.fibs_position.specs.declared.phase.Phase.{Phase}
use Rattle.fibs_position.specs.declared.phase.Phase.TheVariants as phase
use Rattle.fibs_picture.specs.Fits.{ended}
use Rattle.fibs_picture.specs.Picture.{own_pips, other_pips, is_one, match_length}
use Rattle.fibs_picture.specs.Told.{Whose, nobodys, the_players, the_opponents, whose_turn}
use Rattle.fibs_picture.specs.WatchedTold.{SameToTheWatcher}
use Rattle.fibs_picture.proofs.PictureLemmas.Parts.{lacks, lacks-append, ends-tell}
use Rattle.fibs_picture.proofs.PictureLemmas.Notes.{flag-tells, natural-tells, front-lacks}
use Rattle.fibs_picture.proofs.PictureLemmas.Ranges.{Within, Ranges, ranges-of, own-few, other-few, own-pips-few, other-pips-few, pair-same, four-same}
use Rattle.fibs_picture.specs.InWords.Rows.{row_of, told_rows, words}
use Rattle.fibs_picture.specs.InWords.Told.{WatchedWordsTell}
use Rattle.fibs_picture.specs.InWords.Watched.{against_row, is_others, turn_named, dice_said, dice_named, owner_said, cube_named, way_said, named_row}
use Rattle.fibs_picture.specs.InWords.Words.{score_row, count_on, side_row, stacks, off_said}
use Rattle.fibs_picture.specs.declared.in_words.fact.Fact.{Fact}
use Rattle.fibs_picture.specs.declared.in_words.fact.Fact.TheVariants as F
use Rattle.fibs_picture.specs.declared.in_words.side.Side.TheVariants as side
use Rattle.fibs_picture.proofs.WordsLemmas.Named.{against_row-lacks, turn_named-lacks, turn_named-tells, offered_to, dice_said-lacks, comma-lacks, dice_said-tells, dice_named-lacks, dice_named-tells, owner-comma, cube_named-lacks, cube_named-tells, way_row-lacks, way_row-tells}
use Rattle.fibs_picture.proofs.WordsLemmas.Peeling.{Differ, byte, differ-by, Distinct, ArePlain, after_sides, sides, first-row, SameRows, rows-known}
use Rattle.fibs_picture.proofs.WordsLemmas.Places.{Few, decimal-no-letter, side-tells}
use Rattle.fibs_picture.proofs.WordsLemmas.Plain.{not-found}
use Rattle.fibs_picture.proofs.WordsLemmas.Rows.{score_row-lacks, score_row-tells}
use Rattle.fibs_picture.proofs.WordsLemmas.Tells.{way, servers-way, name-lacks, two-rows, checkers, tail-same, SameCheckers, view-same}

-- ---- the phase says whose turn it is

-- whose turn it is in a phase
abbrev said_whose : Phase → Bool → Whose
said_whose phase.Over offered = nobodys
said_whose phase.AnswerDouble offered = cond offered the_opponents the_players
said_whose phase.OpponentActs offered = the_opponents
said_whose phase.RollOrDouble offered = the_players
said_whose phase.Move offered = the_players
said_whose phase.Passing offered = the_players

-- the phase by the tests of its table
abbrev tested : Bool → Bool → Bool → Bool → Bool → Phase
tested over doubled own none can = unwrap_or (cond over (Some phase.Over) (cond doubled (Some phase.AnswerDouble)
    (cond (not own) (Some phase.OpponentActs) (cond none (Some phase.RollOrDouble)
    (cond can (Some phase.Move) (Some phase.Passing)))))) phase.Passing

-- the turn by two of the tests
tested-says : (over doubled own none can : Bool) → cond over nobodys (cond own the_players the_opponents)
    ≡ said_whose (tested over doubled own none can) (offered_to (not own) (tested over doubled own none can))
tested-says true doubled own none can = refl
tested-says false true true none can = refl
tested-says false true false none can = refl
tested-says false false false none can = refl
tested-says false false true true can = refl
tested-says false false true false true = refl
tested-says false false true false false = refl

-- whose turn it is on a board is what its phase says
phase-says : (b : BoardFields) → whose_turn b
    ≡ said_whose (phase_in (position_of b)) (offered_to (is_others b) (phase_in (position_of b)))
unfolding phase_in
phase-says b =
    let p = position_of b in
    tested-says (int_eq (turn b) (pos 0)) (int_eq (field_of b 41) (pos 1)) (int_eq (turn b) (colour b))
    ((p.standing.first == 0) && (p.standing.second == 0)) (can_move p.standing)

said-same : (p q : Phase) (x y : Bool) → p ≡ q → x ≡ y → said_whose p x ≡ said_whose q y
said-same p q x y e f = rw (e, f) refl

-- ---- the rows on the game

abbrev player_of : BoardFields → List ℕ
player_of b = take 30 b.player

abbrev opponent_of : BoardFields → List ℕ
opponent_of b = take 30 b.opponent

-- the player's dice in words
abbrev pub own_dice : BoardFields → List ℕ
own_dice b = dice_said (natural (field_of b 34)) (natural (field_of b 35))

-- the opponent's dice in words
abbrev pub other_dice : BoardFields → List ℕ
other_dice b = dice_said (natural (field_of b 36)) (natural (field_of b 37))

-- the row of a fact
abbrev rows : Numbers → BoardFields → Fact → List ℕ
rows n b = row_of true n b

-- no row has a line end within it
game-plain : (n : Numbers) (b : BoardFields) → IsBoard b → Ranges b → ArePlain (rows n b)
unfolding row_of named_row
game-plain n b h r =
    let p = front-lacks 30 b.player h.0 in
    let o = front-lacks 30 b.opponent h.1 in record {
      turn = turn_named-lacks (is_others b) (phase_in (position_of b)) (player_of b) (opponent_of b) p o;
      dice = dice_named-lacks (player_of b) (own_dice b) (opponent_of b) (other_dice b) p
          (dice_said-lacks (natural (field_of b 34)) (natural (field_of b 35))) o
          (dice_said-lacks (natural (field_of b 36)) (natural (field_of b 37)));
      score = score_row-lacks (field_of b 5) (field_of b 6) (field_of b 4) r.own_score r.other_score r.length_of;
      cube = cube_named-lacks b (player_of b) (opponent_of b) r.cube_is p o;
      way = way_row-lacks (player_of b) (way n b) p;
    }

-- ---- rows that differ

-- the byte behind the first space
abbrev second : List ℕ → ℕ
second [] = 0
second (x ∷ xs) = cond (x == 32) (byte 0 xs) (second xs)

-- a byte of a word is found to be no space
no-space : (x : ℕ) (word : List ℕ) → lacks 32 (x ∷ word) ≡ true → ((x == 32) ≡ false) × (lacks 32 word ≡ true)
no-space x word h = let parts = and_parts (not (x == 32)) (lacks 32 word) h in (not-found (x == 32) parts.0, parts.1)

-- behind a name and its way it is a g
way-second : (p : List ℕ) (d : Direction) (r : List ℕ) → lacks 32 p ≡ true
    → second ((p ++ way_said d) ++ r) ≡ 103
way-second [] Down r h = refl
way-second [] Up r h = refl
way-second (x ∷ p) d r h = let parts = no-space x p h in rw parts.0 (way-second p d r parts.1)

-- behind a name and a comma it is the first byte of what follows
comma-second : (p u r : List ℕ) → lacks 32 p ≡ true → second ((p ++ (44 ∷ (32 ∷ u))) ++ r) ≡ byte 0 (u ++ r)
comma-second [] u r h = refl
comma-second (x ∷ p) u r h = let parts = no-space x p h in rw parts.0 (comma-second p u r parts.1)

-- a text does not begin with a g if it begins with a number without one and with a byte that is not one
no-g : (number : List ℕ) (c : ℕ) (u r : List ℕ) → lacks 103 number ≡ true → (c == 103) ≡ false
    → byte 0 ((number ++ (c ∷ u)) ++ r) ≡ 103 → ⊥
no-g [] c u r h k e = absurd (false≢true (sym k ∙ ap (λ x. x == 103) e))
no-g (x ∷ number) c u r h k e =
    let none = not-found (x == 103) (and_parts (not (x == 103)) (lacks 103 number) h).0 in
    absurd (false≢true (sym none ∙ ap (λ x. x == 103) e))

-- a number has no g
number-no-g : (m : ℕ) (z : ℤ) → m < 2 ^ 32 → Within m z → lacks 103 (signed_decimal z) ≡ true
number-no-g m (pos n) few h = decimal-no-letter 103 n (lit< tt) (omega (arith, ints, few, h.1))
number-no-g m (negsuc n) few h = absurd (omega (arith, ints, h.0))

-- a row in which no g follows the first space
abbrev NoWay : List ℕ → Type 0
NoWay row = (r : List ℕ) → second (row ++ r) ≡ 103 → ⊥

-- such are the score's
score-no-way : (own other match : ℤ) → Within 99999999 own → NoWay (score_row own other match)
unfolding score_row
score-no-way own other match h r e =
    no-g (signed_decimal own) 32 (codes "to " ++ (signed_decimal other ++ (codes ", " ++ (match_length match
    ++ codes "."))))
    r (number-no-g 99999999 own (lit< tt) h) refl e

-- what the cube shows, by what follows the number
cube-text-no-way : (z : ℤ) (owner u : List ℕ) → Within 1048576 z → owner ≡ 44 ∷ u
    → NoWay (codes "Cube " ++ (signed_decimal z ++ owner))
cube-text-no-way z owner u h same r e =
    no-g (signed_decimal z) 44 u r (number-no-g 1048576 z (lit< tt) h) refl
    (sym (ap (λ o. byte 0 ((signed_decimal z ++ o) ++ r)) same) ∙ e)

-- the cube's
cube-no-way : (b : BoardFields) (p o : List ℕ) → Within 1048576 (field_of b 38) → NoWay (cube_named b p o)
unfolding cube_named
cube-no-way b p o h =
    cube-text-no-way (field_of b 38) (owner_said (is_one b 39) (is_one b 40) p o) _ h
    (owner-comma (is_one b 39) (is_one b 40) p o)

-- and the player's
own-no-way : (p : List ℕ) (pips : ℕ) (d : Direction) (count : ℕ → ℕ) → lacks 32 p ≡ true → pips < 2 ^ 64
    → NoWay (side_row p pips d side.Own count)
unfolding side_row
own-no-way p pips d count h few r e =
    let u = codes "pips: " ++ (stacks d side.Own count 25 ++ off_said (count 25)) in
    no-g (decimal pips) 32 u r (decimal-no-letter 103 pips (lit< tt) few) refl
    (sym (comma-second p (decimal pips ++ (32 ∷ u)) r h) ∙ e)

-- a row without a way differs from one with it
no-way-differs : (row p : List ℕ) (d : Direction) → lacks 32 p ≡ true → NoWay row → Differ row (p ++ way_said d)
no-way-differs row p d h clash r s e = clash (10 ∷ r) (ap second e ∙ way-second p d (10 ∷ s) h)

-- nothing and a test that fails is a test that fails
and-false : (b : Bool) → (b && false) ≡ false
and-false true = refl
and-false false = refl

-- a name with a comma has a comma
has-comma : (p : List ℕ) → lacks 44 (p ++ codes ",") ≡ false
has-comma [] = refl
has-comma (x ∷ p) = rw (has-comma p) (and-false (not (x == 44)))

-- the first word of the player's row has a comma, and this one has none
word-differs : (word u p v : List ℕ) (pips : ℕ) (d : Direction) (count : ℕ → ℕ) → lacks 32 word ≡ true
    → lacks 44 word ≡ true → lacks 32 p ≡ true → Differ (word ++ (32 ∷ u)) (side_row p pips d side.Own count)
unfolding side_row
word-differs word u p v pips d count h k l r s e =
    let after = decimal pips ++ (codes " pips: " ++ (stacks d side.Own count 25 ++ off_said (count 25))) in
    let words = ends-tell 32 word (p ++ codes ",") (u ++ (10 ∷ r)) (after ++ (10 ∷ s)) h
    (lacks-append 32 p (codes ",") l refl)
    (sym (append_assoc word (32 ∷ u) (10 ∷ r)) ∙ e ∙ append_assoc p (44 ∷ (32 ∷ after)) (10 ∷ s)
    ∙ sym (append_assoc p (codes ",") (32 ∷ (after ++ (10 ∷ s))))) in
    absurd (false≢true (sym (has-comma p) ∙ ap (lacks 44) (sym words.0) ∙ k))

-- the first byte of the score's row
score-first : (n : Numbers) (b : BoardFields) (r : List ℕ) → byte 0 (rows n b F.Score ++ r) ≡ 83
unfolding row_of named_row score_row
score-first n b r = refl

-- of the cube's
cube-first : (n : Numbers) (b : BoardFields) (r : List ℕ) → byte 0 (rows n b F.Cube ++ r) ≡ 67
unfolding row_of named_row cube_named
cube-first n b r = refl

-- rows that differ do so the other way round
turned : (x y : List ℕ) → Differ x y → Differ y x
turned x y d r s e = d s r (sym e)

-- the score's row is a word, a space, and more
score-word : (own other match : ℤ) → (u : List ℕ) × (score_row own other match ≡ codes "Score" ++ (32 ∷ u))
unfolding score_row
score-word own other match = (_, refl)

-- so is the cube's
cube-word : (b : BoardFields) (p o : List ℕ) → (u : List ℕ) × (cube_named b p o ≡ codes "Cube" ++ (32 ∷ u))
unfolding cube_named
cube-word b p o = (_, refl)

-- a row that is a word, a space and more differs from a player's
worded-differs : (word row p : List ℕ) (pips : ℕ) (d : Direction) (count : ℕ → ℕ) → lacks 32 word ≡ true
    → lacks 44 word ≡ true → lacks 32 p ≡ true → (u : List ℕ) × (row ≡ word ++ (32 ∷ u))
    → Differ row (side_row p pips d side.Own count)
worded-differs word row p pips d count h k l is =
    subst (λ x. Differ x (side_row p pips d side.Own count)) (sym is.1)
    (word-differs word is.0 p [] pips d count h k l)

-- the rows that may be left out differ from those that may follow them
distinct : (n : Numbers) (a b : BoardFields) → IsWatched a → IsWatched b → Ranges a → Ranges b
    → Distinct (rows n a) (rows n b)
unfolding row_of named_row
distinct n a b wa wb r s =
    let pa = name-lacks a.player wa.board.0 in
    let pb = name-lacks b.player wb.board.0 in
    let own = count_on (checkers b) side.Own in
    let score = score_row (field_of a 5) (field_of a 6) (field_of a 4) in
    let cube = cube_named a (player_of a) (opponent_of a) in
    let few = own-pips-few b wb.own in record {
      score_cube = differ-by 0 83 67 (rows n a F.Score) (rows n b F.Cube) (score-first n a) (cube-first n b)
          (λ e. omega (arith, e));
      score_way = no-way-differs score (player_of b) (way n b) pb
          (score-no-way (field_of a 5) (field_of a 6) (field_of a 4) r.own_score);
      score_own = worded-differs (codes "Score") score (player_of b) (own_pips (checkers b)) (way n b) own refl refl pb
          (score-word (field_of a 5) (field_of a 6) (field_of a 4));
      cube_way = no-way-differs cube (player_of b) (way n b) pb
          (cube-no-way a (player_of a) (opponent_of a) r.cube_is);
      cube_own = worded-differs (codes "Cube") cube (player_of b) (own_pips (checkers b)) (way n b) own refl refl pb
          (cube-word a (player_of a) (opponent_of a));
      way_own = turned (side_row (player_of b) (own_pips (checkers b)) (way n b) side.Own own)
          (player_of a ++ way_said (way n a))
          (no-way-differs (side_row (player_of b) (own_pips (checkers b)) (way n b) side.Own own) (player_of a)
          (way n a) pa (own-no-way (player_of b) (own_pips (checkers b)) (way n b) own pb few));
    }

-- ---- the rows on the game

record SameGame (n : Numbers) (a b : BoardFields) : Type 0 where
  turn_is : turn_named (is_others a) (phase_in (position_of a)) (player_of a) (opponent_of a)
      ≡ turn_named (is_others b) (phase_in (position_of b)) (player_of b) (opponent_of b)
  dice_are : dice_named (player_of a) (own_dice a) (opponent_of a) (other_dice a)
      ≡ dice_named (player_of b) (own_dice b) (opponent_of b) (other_dice b)
  score_is : score_row (field_of a 5) (field_of a 6) (field_of a 4)
      ≡ score_row (field_of b 5) (field_of b 6) (field_of b 4)
  cube_is : cube_named a (player_of a) (opponent_of a) ≡ cube_named b (player_of b) (opponent_of b)
  way_is : player_of a ++ way_said (way n a) ≡ player_of b ++ way_said (way n b)

-- boards with the same rows on the game have the same game
same-game : (before : Option (Fact → List ℕ)) (n : Numbers) (a b : BoardFields)
    → SameRows before (rows n a) (rows n b) → SameGame n a b
unfolding row_of named_row
same-game before n a b s = record {
  turn_is = s.turn;
  dice_are = s.dice;
  score_is = s.score;
  cube_is = s.cube;
  way_is = s.way;
}

-- ---- the rows on the checkers

abbrev own_row : BoardFields → Direction → List ℕ
own_row b d = side_row (player_of b) (own_pips (checkers b)) d side.Own (count_on (checkers b) side.Own)

abbrev other_row : BoardFields → Direction → List ℕ
other_row b d = side_row (opponent_of b) (other_pips (checkers b)) d side.Other (count_on (checkers b) side.Other)

-- what follows the player's row
abbrev after_own : BoardFields → Direction → List ℕ → List ℕ
after_own b d t = 10 ∷ (other_row b d ++ (10 ∷ t))

-- the rows on the checkers are the player's row, and what follows it
sides-parts : (before : Option (Fact → List ℕ)) (n : Numbers) (b : BoardFields) → sides before (rows n b)
    ≡ own_row b (way n b) ++ after_own b (way n b) (after_sides before (rows n b))
unfolding row_of named_row
sides-parts before n b =
    two-rows (own_row b (way n b)) (other_row b (way n b)) (after_sides before (rows n b))

-- the player's stacks have few checkers
pub own-counts-few : (b : BoardFields) → IsWatched b → Few (count_on (checkers b) side.Own)
own-counts-few b w k = let few = own-few b w.own (25 - k) in omega (arith, few)

-- the opponent's stacks have few checkers
pub other-counts-few : (b : BoardFields) → IsWatched b → Few (count_on (checkers b) side.Other)
other-counts-few b w k = let few = other-few b w.other k in omega (arith, few)

record SameSides (a b : BoardFields) : Type 0 where
  player : player_of a ≡ player_of b
  counts : SameCheckers a b

-- one text on the checkers has one name and one row of checkers for each side
same-sides : (d : Direction) (a b : BoardFields) (t u : List ℕ) → IsWatched a → IsWatched b
    → own_row a d ++ after_own a d t ≡ own_row b d ++ after_own b d u → SameSides a b
same-sides d a b t u wa wb whole =
    let own = side-tells d side.Own (player_of a) (player_of b) (own_pips (checkers a)) (own_pips (checkers b))
    (count_on (checkers a) side.Own) (count_on (checkers b) side.Own) (after_own a d t) (after_own b d u)
    (name-lacks a.player wa.board.0) (name-lacks b.player wb.board.0)
    (own-pips-few a wa.own) (own-pips-few b wb.own) (own-counts-few a wa) (own-counts-few b wb) whole in
    let other = side-tells d side.Other (opponent_of a) (opponent_of b) (other_pips (checkers a))
    (other_pips (checkers b)) (count_on (checkers a) side.Other) (count_on (checkers b) side.Other) _ _
    (name-lacks a.opponent wa.board.1) (name-lacks b.opponent wb.board.1) (other-pips-few a wa.other)
    (other-pips-few b wb.other) (other-counts-few a wa) (other-counts-few b wb) (tail-same _ _ own.2) in
    record { player = own.0; counts = record { own = own.1; other = other.1; opponent = other.0 } }

-- the same of rows that are told
sides-tell : (before : Option (Fact → List ℕ)) (n : Numbers) (a b : BoardFields) → IsWatched a → IsWatched b
    → way n a ≡ way n b → sides before (rows n a) ≡ sides before (rows n b) → SameSides a b
sides-tell before n a b wa wb ways e =
    let t = after_sides before (rows n a) in
    let u = after_sides before (rows n b) in
    same-sides (way n a) a b t u wa wb
    (sym (sides-parts before n a) ∙ e ∙ sides-parts before n b
    ∙ ap (λ d. own_row b d ++ after_own b d u) (sym ways))

-- ---- what words determine

-- boards with the same game and the same sides are the same to who watches, and of the same phase
told-same : (n : Numbers) (a b : BoardFields) → IsWatched a → IsWatched b → Ranges a → Ranges b → SameGame n a b
    → SameSides a b → SameToTheWatcher n a b × (phase_in (position_of a) ≡ phase_in (position_of b))
told-same n a b wa wb r s g c =
    let pa = name-lacks a.player wa.board.0 in
    let oa = name-lacks a.opponent wa.board.1 in
    let pb = name-lacks b.player wb.board.0 in
    let ob = name-lacks b.opponent wb.board.1 in
    let phases = turn_named-tells (is_others a) (is_others b) (phase_in (position_of a)) (phase_in (position_of b))
    (player_of a) (opponent_of a) (player_of b) (opponent_of b) pa oa pb ob g.turn_is in
    let dice = dice_named-tells (player_of a) (own_dice a) (opponent_of a) (other_dice a) (player_of b) (own_dice b)
    (opponent_of b) (other_dice b) pa oa pb ob (comma-lacks (natural (field_of a 34)) (natural (field_of a 35)))
    (comma-lacks (natural (field_of b 34)) (natural (field_of b 35))) g.dice_are in
    let own_same = dice_said-tells (natural (field_of a 34)) (natural (field_of a 35)) (natural (field_of b 34))
    (natural (field_of b 35)) dice.0 in
    let other_same = dice_said-tells (natural (field_of a 36)) (natural (field_of a 37)) (natural (field_of b 36))
    (natural (field_of b 37)) dice.1 in
    let scores_same = score_row-tells (field_of a 5) (field_of a 6) (field_of a 4) (field_of b 5) (field_of b 6)
    (field_of b 4) r.own_score r.other_score r.length_of s.own_score s.other_score s.length_of g.score_is in
    let cube_same = cube_named-tells a b (player_of a) (opponent_of a) (player_of b) (opponent_of b) pa oa pb ob
    r.cube_is s.cube_is g.cube_is in
    let same : SameToTheWatcher n a b = record {
      arrangement = view-same a b c.counts;
      direction = servers-way n (position_of a).direction (position_of b).direction
          (way_row-tells (player_of a) (player_of b) (way n a) (way n b) pa pb g.way_is);
      turn = phase-says a
          ∙ said-same (phase_in (position_of a)) (phase_in (position_of b))
          (offered_to (is_others a) (phase_in (position_of a))) (offered_to (is_others b) (phase_in (position_of b)))
          phases.0 phases.1
          ∙ sym (phase-says b);
      dice = four-same _ _ _ _ _ _ _ _
          (natural-tells (field_of a 34) (field_of b 34) r.die_1 s.die_1 own_same.0)
          (natural-tells (field_of a 35) (field_of b 35) r.die_2 s.die_2 own_same.1)
          (natural-tells (field_of a 36) (field_of b 36) r.die_3 s.die_3 other_same.0)
          (natural-tells (field_of a 37) (field_of b 37) r.die_4 s.die_4 other_same.1);
      cube = cube_same.0;
      doublers = pair-same _ _ _ _ (flag-tells (field_of a 39) (field_of b 39) r.flag_1 s.flag_1 cube_same.1)
          (flag-tells (field_of a 40) (field_of b 40) r.flag_2 s.flag_2 cube_same.2);
      scores = pair-same _ _ _ _ scores_same.0 scores_same.1;
      match_length = scores_same.2;
      player = c.player;
      opponent = c.counts.opponent;
    } in
    (same, phases.0)

-- the words of a watched board are who plays and its rows, or its rows alone
watched-words : (before : Option (Fact → List ℕ)) (n : Numbers) (b : BoardFields) → words before true n b
    ≡ cond (is_none before) (ended (against_row (player_of b) (opponent_of b))) [] ++ told_rows before (rows n b) 9
unfolding words
watched-words before n b = refl

-- who plays has no line end
players-plain : (b : BoardFields) → IsBoard b → lacks 10 (against_row (player_of b) (opponent_of b)) ≡ true
players-plain b h = against_row-lacks (player_of b) (opponent_of b) (front-lacks 30 b.player h.0)
    (front-lacks 30 b.opponent h.1)

-- boards of the same words have the same rows told
same-told : (before : Option (Fact → List ℕ)) (n : Numbers) (a b : BoardFields) → IsBoard a → IsBoard b
    → words before true n a ≡ words before true n b → told_rows before (rows n a) 9 ≡ told_rows before (rows n b) 9
same-told None n a b h k e =
    (first-row (against_row (player_of a) (opponent_of a)) (against_row (player_of b) (opponent_of b)) _ _
    (players-plain a h) (players-plain b k) (sym (watched-words None n a) ∙ e ∙ watched-words None n b)).1
same-told (Some old) n a b h k e = sym (watched-words (Some old) n a) ∙ e ∙ watched-words (Some old) n b

-- watched boards of the same words are the same to the watcher, and in their phases
pub watched_words_tell : FieldRanges → WatchedWordsTell
watched_words_tell f before n a b wa wb e =
    let r = ranges-of f a wa.board in
    let s = ranges-of f b wb.board in
    let known = rows-known before (rows n a) (rows n b) (game-plain n a wa.board r) (game-plain n b wb.board s)
    (distinct n a b wa wb r s) (distinct n b a wb wa s r) (same-told before n a b wa.board wb.board e) in
    let game = same-game before n a b known in
    told-same n a b wa wb r s game (sides-tell before n a b wa wb
    (way_row-tells (player_of a) (player_of b) (way n a) (way n b)
    (name-lacks a.player wa.board.0) (name-lacks b.player wb.board.0) game.way_is) known.sides_are)
