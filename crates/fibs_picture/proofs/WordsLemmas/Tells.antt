-- Words determine their board: row by row, and in the rows of the sides place by place.
use Rattle.std.proofs.Common.{◌≡◌, ◌≤◌, ◌+◌, ◌-◌, ◌++◌, ℕ, zero, suc, true, false, not, Bool, ◌==◌, ◌&&◌, List, [], ◌∷◌, length, codes, refl, sym, ◌∙◌, ap, subst, arith, append_assoc, take}
use Rattle.std.specs.Prelude.{Option, nat_lt, nat_le, slice_index}
use Rattle.std.specs.List.{list_all}
use Rattle.std.proofs.lemmas.Bool.{and_parts}
use Rattle.std.proofs.lemmas.Bool.Decides.{nat_tests}
use Rattle.std.proofs.lemmas.List.{ext_get_or}
use Rattle.fibs_fields.specs.Board.{BoardFields, field_of}
use Rattle.fibs_fields.specs.FieldRanges.{FieldRanges}
use Rattle.fibs_fields.specs.FieldReading.{natural}
use Rattle.fibs_fields.specs.Name.{is_name, is_name_byte}
use Rattle.fibs_rules.specs.Checkers.{Checkers}
use Rattle.fibs_position.specs.GoodBoard.{IsGood}
use Rattle.fibs_position.specs.NumbersOf.{counted}
use Rattle.fibs_position.specs.OwnView.{own_view, places, turn, colour}
use Rattle.fibs_position.specs.Phases.{phase_in}
use Rattle.fibs_position.specs.PositionValue.{position_of}
use Rattle.fibs_position.specs.declared.direction.Direction.{Direction}
use Rattle.fibs_position.specs.declared.direction.Direction.TheVariants.{Down, Up}
use Rattle.fibs_position.specs.declared.numbers.Numbers.{Numbers}
use Rattle.fibs_position.specs.declared.numbers.Numbers.TheVariants.{TheServers, TheOwn}
use Rattle.fibs_picture.specs.Fits.{ended}
use Rattle.fibs_picture.specs.Picture.{own_pips, other_pips}
use Rattle.fibs_picture.specs.Told.{SameToTheEye}
use Rattle.fibs_picture.proofs.PictureLemmas.Parts.{lacks}
use Rattle.fibs_picture.proofs.PictureLemmas.Notes.{flag-tells, all-mono, natural-tells}
use Rattle.fibs_picture.proofs.PictureLemmas.Ranges.{Ranges, ranges-of, own-few, other-few, own-pips-few, other-pips-few, pair-same, four-same}
use Rattle.fibs_picture.specs.InWords.Rows.{row_of, told_rows, words}
use Rattle.fibs_picture.specs.InWords.Told.{WordsTell}
use Rattle.fibs_picture.specs.InWords.Words.{whose, turn_row, dice_row, score_row, cube_row, direction_row, count_on, side_row, row}
use Rattle.fibs_picture.specs.declared.in_words.fact.Fact.{Fact}
use Rattle.fibs_picture.specs.declared.in_words.fact.Fact.TheVariants as F
use Rattle.fibs_picture.specs.declared.in_words.side.Side.TheVariants as side
use Rattle.fibs_picture.proofs.WordsLemmas.Peeling.{byte, differ-by, Distinct, ArePlain, after_sides, sides, SameRows, rows-known}
use Rattle.fibs_picture.proofs.WordsLemmas.Places.{Few, side-tells}
use Rattle.fibs_picture.proofs.WordsLemmas.Rows.{turn_row-lacks, turn_row-tells, dice_row-lacks, dice_row-tells, score_row-lacks, score_row-tells, cube_row-lacks, cube_row-tells, direction_row-lacks, direction_row-tells}

-- ---- names

-- a byte of a name is no space
no-space : (x : ℕ) → is_name_byte x ≡ true → not (x == 32) ≡ true
no-space x h = grind (arith, nat_tests)

-- what holds of each element holds of each in a front
take-all : (p : ℕ → Bool) (n : ℕ) (xs : List ℕ) → list_all p xs ≡ true → list_all p (take n xs) ≡ true
take-all p zero xs h = refl
take-all p (suc n) [] h = refl
take-all p (suc n) (x ∷ xs) h =
    let parts = and_parts (p x) (list_all p xs) h in
    rw parts.0 (take-all p n xs parts.1)

-- a name has no space
pub name-lacks : (name : List ℕ) → is_name name ≡ true → lacks 32 (take 30 name) ≡ true
name-lacks name h =
    let size = nat_lt 0 (length name) && nat_le (length name) 64 in
    let bytes = (and_parts size (list_all is_name_byte name) h).1 in
    take-all (λ x. not (x == 32)) 30 name (all-mono is_name_byte (λ x. not (x == 32)) no-space name bytes)

-- ---- the numbers

-- which way the player goes by these numbers
abbrev pub way : Numbers → BoardFields → Direction
way n b = counted n (position_of b).direction

-- the two kinds of numbers are known from each other
abbrev kind : Numbers → ℕ
kind TheServers = 0
kind TheOwn = 1

-- by the server's numbers players who go the same way go the same way
pub servers-way : (n : Numbers) (d e : Direction) → counted n d ≡ counted n e → n ≡ TheServers → d ≡ e
servers-way TheServers d e same h = same
servers-way TheOwn d e same h = absurd (omega (arith, ap kind h))

-- ---- the rows on the game

-- the row of a fact
abbrev rows : Numbers → BoardFields → Fact → List ℕ
rows n b = row_of false n b

-- no row of the game has a line end
game-plain : (n : Numbers) (b : BoardFields) → Ranges b → ArePlain (rows n b)
unfolding row_of row
game-plain n b r = record {
  turn = turn_row-lacks (whose (turn b) (colour b)) (phase_in (position_of b));
  dice = dice_row-lacks (natural (field_of b 34)) (natural (field_of b 35)) (natural (field_of b 36))
      (natural (field_of b 37));
  score = score_row-lacks (field_of b 5) (field_of b 6) (field_of b 4) r.own_score r.other_score r.length_of;
  cube = cube_row-lacks b r.cube_is;
  way = direction_row-lacks (way n b);
}

-- the first byte of the score's row
score-first : (n : Numbers) (b : BoardFields) (r : List ℕ) → byte 0 (rows n b F.Score ++ r) ≡ 83
unfolding row_of row score_row
score-first n b r = refl

-- of the cube's
cube-first : (n : Numbers) (b : BoardFields) (r : List ℕ) → byte 0 (rows n b F.Cube ++ r) ≡ 67
unfolding row_of row cube_row
cube-first n b r = refl

-- of the way's, and its fourth
way_row-bytes : (d : Direction) (r : List ℕ)
    → (byte 0 (direction_row d ++ r) ≡ 89) × (byte 3 (direction_row d ++ r) ≡ 32)
way_row-bytes Down r = (refl, refl)
way_row-bytes Up r = (refl, refl)

way-first : (n : Numbers) (b : BoardFields) (r : List ℕ) → byte 0 (rows n b F.Way ++ r) ≡ 89
unfolding row_of row
way-first n b r = (way_row-bytes (way n b) r).0

way-fourth : (n : Numbers) (b : BoardFields) (r : List ℕ) → byte 3 (rows n b F.Way ++ r) ≡ 32
unfolding row_of row
way-fourth n b r = (way_row-bytes (way n b) r).1

-- of the player's row, and its fourth
own-first : (n : Numbers) (b : BoardFields) (r : List ℕ) → byte 0 (rows n b F.Own ++ r) ≡ 89
unfolding row_of row side_row
own-first n b r = refl

own-fourth : (n : Numbers) (b : BoardFields) (r : List ℕ) → byte 3 (rows n b F.Own ++ r) ≡ 44
unfolding row_of row side_row
own-fourth n b r = refl

-- so the rows that may be left out differ from those that may follow them
distinct : (n : Numbers) (a b : BoardFields) → Distinct (rows n a) (rows n b)
distinct n a b = record {
  score_cube = differ-by 0 83 67 (rows n a F.Score) (rows n b F.Cube) (score-first n a) (cube-first n b)
      (λ e. omega (arith, e));
  score_way = differ-by 0 83 89 (rows n a F.Score) (rows n b F.Way) (score-first n a) (way-first n b)
      (λ e. omega (arith, e));
  score_own = differ-by 0 83 89 (rows n a F.Score) (rows n b F.Own) (score-first n a) (own-first n b)
      (λ e. omega (arith, e));
  cube_way = differ-by 0 67 89 (rows n a F.Cube) (rows n b F.Way) (cube-first n a) (way-first n b)
      (λ e. omega (arith, e));
  cube_own = differ-by 0 67 89 (rows n a F.Cube) (rows n b F.Own) (cube-first n a) (own-first n b)
      (λ e. omega (arith, e));
  way_own = differ-by 3 32 44 (rows n a F.Way) (rows n b F.Own) (way-fourth n a) (own-fourth n b)
      (λ e. omega (arith, e));
}

-- the row of a board's dice
abbrev pub own_dice : BoardFields → List ℕ
own_dice b = dice_row (natural (field_of b 34)) (natural (field_of b 35)) (natural (field_of b 36))
    (natural (field_of b 37))

record SameGame (n : Numbers) (a b : BoardFields) : Type 0 where
  turn_is : turn_row (whose (turn a) (colour a)) (phase_in (position_of a))
      ≡ turn_row (whose (turn b) (colour b)) (phase_in (position_of b))
  dice_are : own_dice a ≡ own_dice b
  score_is : score_row (field_of a 5) (field_of a 6) (field_of a 4)
      ≡ score_row (field_of b 5) (field_of b 6) (field_of b 4)
  cube_is : cube_row a ≡ cube_row b
  way_is : direction_row (way n a) ≡ direction_row (way n b)

-- boards with the same rows have the same game
same-game : (before : Option (Fact → List ℕ)) (n : Numbers) (a b : BoardFields)
    → SameRows before (rows n a) (rows n b) → SameGame n a b
unfolding row_of row
same-game before n a b s = record {
  turn_is = s.turn;
  dice_are = s.dice;
  score_is = s.score;
  cube_is = s.cube;
  way_is = s.way;
}

-- ---- the rows on the checkers

-- two rows, each with its end, and what follows
pub two-rows : (x y t : List ℕ) → ended x ++ (ended y ++ t) ≡ x ++ (10 ∷ (y ++ (10 ∷ t)))
two-rows x y t =
    append_assoc x (10 ∷ []) (ended y ++ t) ∙ ap (λ u. x ++ (10 ∷ u)) (append_assoc y (10 ∷ []) t)

-- the checkers of a board, as its player sees them
abbrev pub checkers : BoardFields → Checkers
checkers b = (position_of b).standing.checkers

-- the row of the player's checkers
abbrev own_row : BoardFields → Direction → List ℕ
own_row b d = side_row (codes "You") (own_pips (checkers b)) d side.Own (count_on (checkers b) side.Own)

-- the row of the opponent's checkers
abbrev other_row : BoardFields → Direction → List ℕ
other_row b d = side_row (take 30 b.opponent) (other_pips (checkers b)) d side.Other (count_on (checkers b) side.Other)

-- what follows the player's row
abbrev after_own : BoardFields → Direction → List ℕ → List ℕ
after_own b d t = 10 ∷ (other_row b d ++ (10 ∷ t))

-- what is told of the sides begins with the player's row
sides-parts : (before : Option (Fact → List ℕ)) (n : Numbers) (b : BoardFields) → sides before (rows n b)
    ≡ own_row b (way n b) ++ after_own b (way n b) (after_sides before (rows n b))
unfolding row_of row
sides-parts before n b =
    two-rows (own_row b (way n b)) (other_row b (way n b)) (after_sides before (rows n b))

-- no place of a good board has more than 15 checkers of the player
pub own-counts-few : (b : BoardFields) → IsGood b → Few (count_on (checkers b) side.Own)
own-counts-few b good k = let few = own-few b good.own (25 - k) in omega (arith, few)

-- or of the opponent
pub other-counts-few : (b : BoardFields) → IsGood b → Few (count_on (checkers b) side.Other)
other-counts-few b good k = let few = other-few b good.other k in omega (arith, few)

pub record SameCheckers (a b : BoardFields) : Type 0 where
  pub own : (k : ℕ) → k ≤ 25 → count_on (checkers a) side.Own k ≡ count_on (checkers b) side.Own k
  pub other : (k : ℕ) → k ≤ 25 → count_on (checkers a) side.Other k ≡ count_on (checkers b) side.Other k
  pub opponent : take 30 a.opponent ≡ take 30 b.opponent

-- what follows equal line ends is the same
pub tail-same : (s t : List ℕ) → 10 ∷ s ≡ 10 ∷ t → s ≡ t
tail-same s t e = cc

-- boards of one direction with the same rows of the checkers have the same counts
same-checkers : (d : Direction) (a b : BoardFields) (t u : List ℕ) → IsGood a → IsGood b
    → own_row a d ++ after_own a d t ≡ own_row b d ++ after_own b d u → SameCheckers a b
same-checkers d a b t u ga gb whole =
    let own = side-tells d side.Own (codes "You") (codes "You") (own_pips (checkers a)) (own_pips (checkers b))
    (count_on (checkers a) side.Own) (count_on (checkers b) side.Own) (after_own a d t) (after_own b d u) refl refl
    (own-pips-few a ga.own) (own-pips-few b gb.own) (own-counts-few a ga) (own-counts-few b gb) whole in
    let other = side-tells d side.Other (take 30 a.opponent) (take 30 b.opponent) (other_pips (checkers a))
    (other_pips (checkers b)) (count_on (checkers a) side.Other) (count_on (checkers b) side.Other) _ _
    (name-lacks a.opponent ga.board.1) (name-lacks b.opponent gb.board.1) (other-pips-few a ga.other)
    (other-pips-few b gb.other) (other-counts-few a ga) (other-counts-few b gb) (tail-same _ _ own.2) in
    record { own = own.1; other = other.1; opponent = other.0 }

-- the same of rows that are told
sides-tell : (before : Option (Fact → List ℕ)) (n : Numbers) (a b : BoardFields) → IsGood a → IsGood b
    → way n a ≡ way n b → sides before (rows n a) ≡ sides before (rows n b) → SameCheckers a b
sides-tell before n a b ga gb ways e =
    let t = after_sides before (rows n a) in
    let u = after_sides before (rows n b) in
    same-checkers (way n a) a b t u ga gb
    (sym (sides-parts before n a) ∙ e ∙ sides-parts before n b
    ∙ ap (λ d. own_row b d ++ after_own b d u) (sym ways))

-- ---- the arrangement

-- the player's checkers are counted on 26 places
own-size : (b : BoardFields) → length (own_view b).own ≡ 26
unfolding own_view places
own-size b = refl

-- and the opponent's
other-size : (b : BoardFields) → length (own_view b).other ≡ 26
unfolding own_view places
other-size b = refl

-- the player's checkers are the same on all places if the counts are
own-same : (a b : BoardFields) → SameCheckers a b → (own_view a).own ≡ (own_view b).own
own-same a b s =
    let size = own-size a in
    ext_get_or 0 (own_view a).own (own_view b).own (size ∙ sym (own-size b))
    (λ i low.
    let back : 25 - (25 - i) ≡ i = omega (arith, low, size) in
    subst (λ j. slice_index (own_view a).own j ≡ slice_index (own_view b).own j) back
    (s.own (25 - i) (omega arith)))

-- and the opponent's
other-same : (a b : BoardFields) → SameCheckers a b → (own_view a).other ≡ (own_view b).other
other-same a b s =
    let size = other-size a in
    ext_get_or 0 (own_view a).other (own_view b).other (size ∙ sym (other-size b))
    (λ i low. s.other i (omega (arith, low, size)))

-- the checkers of both sides
abbrev arranged : List ℕ → List ℕ → Checkers
arranged own other = record { own = own; other = other }

-- they are the same if each side's are
arranged-same : (p p' q q' : List ℕ) → p ≡ p' → q ≡ q' → arranged p q ≡ arranged p' q'
arranged-same p p' q q' e f = rw (e, f) refl

-- so boards with the same counts are seen alike
pub view-same : (a b : BoardFields) → SameCheckers a b → own_view a ≡ own_view b
unfolding own_view
view-same a b s = arranged-same (own_view a).own (own_view b).own (own_view a).other (own_view b).other
    (own-same a b s) (other-same a b s)

-- ---- what words determine

-- boards with the same game and the same checkers are the same to the eye
told-same : (n : Numbers) (a b : BoardFields) → Ranges a → Ranges b → SameGame n a b → SameCheckers a b
    → SameToTheEye n a b
told-same n a b r s g c =
    let turns = turn_row-tells (whose (turn a) (colour a)) (whose (turn b) (colour b)) (phase_in (position_of a))
    (phase_in (position_of b)) g.turn_is in
    let dice_same = dice_row-tells (natural (field_of a 34)) (natural (field_of a 35)) (natural (field_of a 36))
    (natural (field_of a 37)) (natural (field_of b 34)) (natural (field_of b 35)) (natural (field_of b 36))
    (natural (field_of b 37)) g.dice_are in
    let scores_same = score_row-tells (field_of a 5) (field_of a 6) (field_of a 4) (field_of b 5) (field_of b 6)
    (field_of b 4) r.own_score r.other_score r.length_of s.own_score s.other_score s.length_of g.score_is in
    let cube_same = cube_row-tells a b r.cube_is s.cube_is g.cube_is in
    record {
      arrangement = view-same a b c;
      direction = servers-way n (position_of a).direction (position_of b).direction
          (direction_row-tells (way n a) (way n b) g.way_is);
      turn = turns.0;
      phase = turns.1;
      dice = four-same _ _ _ _ _ _ _ _
          (natural-tells (field_of a 34) (field_of b 34) r.die_1 s.die_1 dice_same.0)
          (natural-tells (field_of a 35) (field_of b 35) r.die_2 s.die_2 dice_same.1)
          (natural-tells (field_of a 36) (field_of b 36) r.die_3 s.die_3 dice_same.2)
          (natural-tells (field_of a 37) (field_of b 37) r.die_4 s.die_4 dice_same.3);
      cube = cube_same.0;
      doublers = pair-same _ _ _ _ (flag-tells (field_of a 39) (field_of b 39) r.flag_1 s.flag_1 cube_same.1)
          (flag-tells (field_of a 40) (field_of b 40) r.flag_2 s.flag_2 cube_same.2);
      scores = pair-same _ _ _ _ scores_same.0 scores_same.1;
      match_length = scores_same.2;
      opponent = c.opponent;
    }

-- the words of a board of the user's own are its rows
own-words : (before : Option (Fact → List ℕ)) (n : Numbers) (b : BoardFields)
    → words before false n b ≡ told_rows before (rows n b) 9
unfolding words
own-words before n b = refl

-- boards with the same words are the same to the eye
pub words_tell : FieldRanges → WordsTell
words_tell f before n a b ga gb e =
    let r = ranges-of f a ga.board in
    let s = ranges-of f b gb.board in
    let known = rows-known before (rows n a) (rows n b) (game-plain n a r) (game-plain n b s) (distinct n a b)
    (distinct n b a) (sym (own-words before n a) ∙ e ∙ own-words before n b) in
    let game = same-game before n a b known in
    told-same n a b r s game
    (sides-tell before n a b ga gb (direction_row-tells (way n a) (way n b) game.way_is) known.sides_are)
