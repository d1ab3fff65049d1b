-- Rows that are broken and joined again are the rows: none of them begins with a space.
use Rattle.std.proofs.Common.{◌≡◌, ◌+◌, ◌==◌, ◌++◌, ℕ, zero, suc, Bool, true, false, not, cond, List, [], ◌∷◌, codes, length, take, refl, sym, ◌∙◌, ap, subst, arith, append_assoc}
use Rattle.std.specs.Prelude.{Option, Some, None}
use Rattle.std.specs.List.{flat_map, range_with_len}
use Rattle.std.proofs.lemmas.Bool.{and_parts, false≢true}
use Rattle.fibs_fields.specs.Board.{BoardFields, IsBoard, field_of}
use Rattle.fibs_fields.specs.FieldRanges.{FieldRanges}
use Rattle.fibs_fields.specs.FieldReading.{natural}
use Rattle.fibs_fields.specs.Name.{is_name}
use Rattle.fibs_position.specs.GoodBoard.{IsGood}
use Rattle.fibs_position.specs.OwnView.{turn, colour}
use Rattle.fibs_position.specs.Phases.{phase_in}
use Rattle.fibs_position.specs.PositionValue.{position_of}
use Rattle.fibs_position.specs.Watched.{IsWatched}
use Rattle.fibs_position.specs.declared.direction.Direction.{Direction}
use Rattle.fibs_position.specs.declared.direction.Direction.TheVariants.{Down, Up}
use Rattle.fibs_position.specs.declared.numbers.Numbers.{Numbers}
use Rattle.fibs_position.specs.declared.phase.Phase.{Phase}
use Rattle.fibs_position.specs.declared.phase.Phase.TheVariants as phase
use Rattle.fibs_picture.specs.Fits.{ended}
use Rattle.fibs_picture.specs.Picture.{own_pips, other_pips}
use Rattle.fibs_picture.specs.Told.{Whose, nobodys, the_players, the_opponents}
use Rattle.fibs_picture.specs.InWords.Rows.{goes_on, rejoined, is_left_out, told_row, told_rows, fact_at, row_of, words}
use Rattle.fibs_picture.specs.InWords.Told.{RowsJoin}
use Rattle.fibs_picture.specs.InWords.Watched.{against_row, is_others, turn_named, offered_said, dice_said, dice_named, cube_named, named_row}
use Rattle.fibs_picture.specs.InWords.Words.{whose, turn_said, turn_row, dice_row, pair, score_row, cube_row, direction_row, count_on, row}
use Rattle.fibs_picture.specs.declared.in_words.fact.Fact.{Fact}
use Rattle.fibs_picture.specs.declared.in_words.fact.Fact.TheVariants as F
use Rattle.fibs_picture.specs.declared.in_words.side.Side.TheVariants as side
use Rattle.fibs_picture.proofs.PictureLemmas.Parts.{lacks}
use Rattle.fibs_picture.proofs.PictureLemmas.Notes.{front-lacks}
use Rattle.fibs_picture.proofs.PictureLemmas.Ranges.{Ranges, ranges-of, own-pips-few, other-pips-few}
use Rattle.fibs_picture.proofs.WordsLemmas.Named.{against_row-lacks, turn_named-lacks, dice_said-lacks, dice_named-lacks, cube_named-lacks, way_row-lacks}
use Rattle.fibs_picture.proofs.WordsLemmas.Plain.{IsRow, not-found, side-plain, side-begins, held-is, held_named-is, blots-is, blots_named-is}
use Rattle.fibs_picture.proofs.WordsLemmas.Rows.{turn_row-lacks, dice_row-lacks, score_row-lacks, cube_row-lacks, direction_row-lacks}
use Rattle.fibs_picture.proofs.WordsLemmas.Tells as Own
use Rattle.fibs_picture.proofs.WordsLemmas.Watched as Named

-- ---- whole rows

-- a text of whole rows does not go on a row, and is the same if it is joined again
record IsWhole (text : List ℕ) : Type 0 where
  apart : goes_on text ≡ false
  same : rejoined text ≡ text

-- nothing is
nothing-whole : IsWhole []
nothing-whole = record { apart = refl; same = refl }

-- what is joined again behind a text without a line end
plain-first : (text u : List ℕ) → lacks 10 text ≡ true → rejoined (text ++ u) ≡ text ++ rejoined u
plain-first [] u h = refl
plain-first (x ∷ text) u h =
    let parts = and_parts (not (x == 10)) (lacks 10 text) h in
    rw (not-found (x == 10) parts.0, plain-first text u parts.1) refl

-- whether a row goes on is seen in it, or in what follows an empty one
row-apart : (text u : List ℕ) → lacks 10 text ≡ true → goes_on text ≡ false → goes_on u ≡ false
    → goes_on (text ++ (10 ∷ u)) ≡ false
row-apart [] u h k e = e
row-apart (x ∷ text) u h k e =
    let parts = and_parts (not (x == 10)) (lacks 10 text) h in
    let none = not-found (x == 10) parts.0 in
    let here : (x == 32) ≡ false = sym (ap (λ b. cond b (goes_on text) (x == 32)) none) ∙ k in
    rw (none, here) refl

-- a line end before whole rows stays
end-stays : (u : List ℕ) → IsWhole u → rejoined (10 ∷ u) ≡ 10 ∷ u
end-stays u w = ap (λ b. cond b (rejoined u) (10 ∷ rejoined u)) w.apart ∙ ap (λ t. 10 ∷ t) w.same

-- a row before whole rows
row-whole : (text u : List ℕ) → IsRow text → IsWhole u → IsWhole (ended text ++ u)
row-whole text u r w = subst IsWhole (sym (append_assoc text (10 ∷ []) u)) (record {
  apart = row-apart text u r.plain r.begins w.apart;
  same = plain-first text (10 ∷ u) r.plain ∙ ap (λ t. text ++ t) (end-stays u w);
})

-- a row that may be left out
either-whole : (out : Bool) (text u : List ℕ) → IsRow text → IsWhole u → IsWhole (cond out [] (ended text) ++ u)
either-whole true text u r w = w
either-whole false text u r w = row-whole text u r w

-- the rows of some facts
facts-whole : (before : Option (Fact → List ℕ)) (rows : Fact → List ℕ) → ((fact : Fact) → IsRow (rows fact))
    → (a n : ℕ) → IsWhole (flat_map (λ i. told_row before rows (fact_at i)) (range_with_len a n))
facts-whole before rows are a zero = nothing-whole
facts-whole before rows are a (suc n) =
    either-whole (is_left_out before (fact_at a) (rows (fact_at a))) (rows (fact_at a))
    (flat_map (λ i. told_row before rows (fact_at i)) (range_with_len (a + 1) n)) (are (fact_at a))
    (facts-whole before rows are (a + 1) n)

-- of all
told-whole : (before : Option (Fact → List ℕ)) (rows : Fact → List ℕ) → ((fact : Fact) → IsRow (rows fact))
    → IsWhole (told_rows before rows 9)
unfolding told_rows
told-whole before rows are = facts-whole before rows are 0 9

-- ---- the rows of a board of the user's own

-- a row of the turn does not begin with a space
turn-begins : (w : Whose) (t : List ℕ) → goes_on (turn_said w ++ t) ≡ false
turn-begins nobodys t = refl
turn-begins the_players t = refl
turn-begins the_opponents t = refl

-- nor does the row of the dice
dice-begins : (none other : Bool) (m n k l : ℕ) → goes_on (cond none
    (cond other (codes "No dice.") (codes "The opponent's dice " ++ (pair k l ++ codes ".")))
    (codes "Your dice " ++ (pair m n ++ cond other (codes ".") (codes ", the opponent's " ++ (pair k l
    ++ codes "."))))) ≡ false
dice-begins true true m n k l = refl
dice-begins true false m n k l = refl
dice-begins false other m n k l = refl

-- or that of the way
way-begins : (d : Direction) → goes_on (direction_row d) ≡ false
way-begins Down = refl
way-begins Up = refl

-- the opponent's name
opponent-plain : (b : BoardFields) → IsBoard b → lacks 10 (take 30 b.opponent) ≡ true
opponent-plain b h = front-lacks 30 b.opponent h.1

-- each row
own-row : (n : Numbers) (b : BoardFields) → IsGood b → Ranges b → (fact : Fact) → IsRow (row_of false n b fact)
unfolding row_of row turn_row dice_row score_row cube_row
own-row n b good r F.Turn = record {
  plain = turn_row-lacks (whose (turn b) (colour b)) (phase_in (position_of b));
  begins = turn-begins (whose (turn b) (colour b)) _;
}
own-row n b good r F.Dice = record {
  plain = dice_row-lacks (natural (field_of b 34)) (natural (field_of b 35)) (natural (field_of b 36))
      (natural (field_of b 37));
  begins = dice-begins _ _ (natural (field_of b 34)) (natural (field_of b 35)) (natural (field_of b 36))
      (natural (field_of b 37));
}
own-row n b good r F.Score = record {
  plain = score_row-lacks (field_of b 5) (field_of b 6) (field_of b 4) r.own_score r.other_score r.length_of;
  begins = refl;
}
own-row n b good r F.Cube = record { plain = cube_row-lacks b r.cube_is; begins = refl }
own-row n b good r F.Way = record { plain = direction_row-lacks (Own.way n b); begins = way-begins (Own.way n b) }
own-row n b good r F.Own = record {
  plain = side-plain (codes "You") (own_pips (Own.checkers b)) (Own.way n b) side.Own
      (count_on (Own.checkers b) side.Own) refl (own-pips-few b good.own) (Own.own-counts-few b good);
  begins = side-begins (codes "You") (own_pips (Own.checkers b)) (Own.way n b) side.Own
      (count_on (Own.checkers b) side.Own) refl refl;
}
own-row n b good r F.Other = record {
  plain = side-plain (take 30 b.opponent) (other_pips (Own.checkers b)) (Own.way n b) side.Other
      (count_on (Own.checkers b) side.Other) (opponent-plain b good.board) (other-pips-few b good.other)
      (Own.other-counts-few b good);
  begins = side-begins (take 30 b.opponent) (other_pips (Own.checkers b)) (Own.way n b) side.Other
      (count_on (Own.checkers b) side.Other) (opponent-plain b good.board)
      (Own.name-lacks b.opponent good.board.1);
}
own-row n b good r F.Held = held-is (Own.way n b) (Own.checkers b)
own-row n b good r F.Blots = blots-is (Own.way n b) (Own.checkers b) (take 30 b.opponent)
    (opponent-plain b good.board)

-- so they are whole
own-whole : (before : Option (Fact → List ℕ)) (n : Numbers) (b : BoardFields) → IsGood b → Ranges b
    → IsWhole (words before false n b)
unfolding words
own-whole before n b good r = told-whole before (row_of false n b) (own-row n b good r)

-- ---- the rows of a watched board

-- the player's name
player-plain : (b : BoardFields) → IsBoard b → lacks 10 (take 30 b.player) ≡ true
player-plain b h = front-lacks 30 b.player h.0

-- what begins with a name and then a space or an apostrophe
space-begins : (name u : List ℕ) → lacks 32 name ≡ true → lacks 10 name ≡ true → (name ≡ [] → ⊥)
    → goes_on (name ++ u) ≡ false
space-begins [] u h k some = absurd (some refl)
space-begins (x ∷ name) u h k some =
    let space = not-found (x == 32) (and_parts (not (x == 32)) (lacks 32 name) h).0 in
    let end = not-found (x == 10) (and_parts (not (x == 10)) (lacks 10 name) k).0 in
    rw (end, space) refl

-- a name is not nothing
name-some : (name : List ℕ) → is_name name ≡ true → take 30 name ≡ [] → ⊥
name-some [] h e = absurd (false≢true h)
name-some (x ∷ name) h e = absurd (omega (arith, ap length e))

-- what begins with the name of one of the two
record Begins (name : List ℕ) : Type 0 where
  spaces : lacks 32 name ≡ true
  ends : lacks 10 name ≡ true
  some : name ≡ [] → ⊥

-- is no row that goes on
begins : (name u : List ℕ) → Begins name → goes_on (name ++ u) ≡ false
begins name u n = space-begins name u n.spaces n.ends n.some

-- so is the player's name
player-begins : (b : BoardFields) → IsBoard b → Begins (take 30 b.player)
player-begins b h = record {
  spaces = Own.name-lacks b.player h.0;
  ends = player-plain b h;
  some = name-some b.player h.0;
}

-- and the opponent's
opponent-begins : (b : BoardFields) → IsBoard b → Begins (take 30 b.opponent)
opponent-begins b h = record {
  spaces = Own.name-lacks b.opponent h.1;
  ends = opponent-plain b h;
  some = name-some b.opponent h.1;
}

-- the row of a double that is offered
offered-begins : (others : Bool) (p o : List ℕ) → Begins p → Begins o → goes_on (offered_said others p o) ≡ false
unfolding offered_said
offered-begins true p o h k = begins o _ k
offered-begins false p o h k = begins p _ h

-- the row of the turn
named-begins : (others : Bool) (ph : Phase) (p o : List ℕ) → Begins p → Begins o
    → goes_on (turn_named others ph p o) ≡ false
unfolding turn_named
named-begins others phase.Over p o h k = refl
named-begins others phase.AnswerDouble p o h k = offered-begins others p o h k
named-begins others phase.OpponentActs p o h k = begins o _ k
named-begins others phase.RollOrDouble p o h k = begins p _ h
named-begins others phase.Move p o h k = begins p _ h
named-begins others phase.Passing p o h k = begins p _ h

-- each row
named-row : (n : Numbers) (b : BoardFields) → IsWatched b → Ranges b → (fact : Fact) → IsRow (row_of true n b fact)
unfolding row_of named_row dice_named score_row cube_named
named-row n b w r F.Turn = record {
  plain = turn_named-lacks (is_others b) (phase_in (position_of b)) (take 30 b.player) (take 30 b.opponent)
      (player-plain b w.board) (opponent-plain b w.board);
  begins = named-begins (is_others b) (phase_in (position_of b)) (take 30 b.player) (take 30 b.opponent)
      (player-begins b w.board) (opponent-begins b w.board);
}
named-row n b w r F.Dice = record {
  plain = dice_named-lacks (take 30 b.player) (Named.own_dice b) (take 30 b.opponent) (Named.other_dice b)
      (player-plain b w.board) (dice_said-lacks (natural (field_of b 34)) (natural (field_of b 35)))
      (opponent-plain b w.board) (dice_said-lacks (natural (field_of b 36)) (natural (field_of b 37)));
  begins = begins (take 30 b.player) _ (player-begins b w.board);
}
named-row n b w r F.Score = record {
  plain = score_row-lacks (field_of b 5) (field_of b 6) (field_of b 4) r.own_score r.other_score r.length_of;
  begins = refl;
}
named-row n b w r F.Cube = record {
  plain = cube_named-lacks b (take 30 b.player) (take 30 b.opponent) r.cube_is (player-plain b w.board)
      (opponent-plain b w.board);
  begins = refl;
}
named-row n b w r F.Way = record {
  plain = way_row-lacks (take 30 b.player) (Own.way n b) (player-plain b w.board);
  begins = begins (take 30 b.player) _ (player-begins b w.board);
}
named-row n b w r F.Own = record {
  plain = side-plain (take 30 b.player) (own_pips (Own.checkers b)) (Own.way n b) side.Own
      (count_on (Own.checkers b) side.Own) (player-plain b w.board) (own-pips-few b w.own) (Named.own-counts-few b w);
  begins = side-begins (take 30 b.player) (own_pips (Own.checkers b)) (Own.way n b) side.Own
      (count_on (Own.checkers b) side.Own) (player-plain b w.board) (Own.name-lacks b.player w.board.0);
}
named-row n b w r F.Other = record {
  plain = side-plain (take 30 b.opponent) (other_pips (Own.checkers b)) (Own.way n b) side.Other
      (count_on (Own.checkers b) side.Other) (opponent-plain b w.board) (other-pips-few b w.other)
      (Named.other-counts-few b w);
  begins = side-begins (take 30 b.opponent) (other_pips (Own.checkers b)) (Own.way n b) side.Other
      (count_on (Own.checkers b) side.Other) (opponent-plain b w.board) (Own.name-lacks b.opponent w.board.1);
}
named-row n b w r F.Held = held_named-is (Own.way n b) (Own.checkers b) (take 30 b.player) (player-plain b w.board)
named-row n b w r F.Blots = blots_named-is (Own.way n b) (Own.checkers b) (take 30 b.player) (take 30 b.opponent)
    (player-plain b w.board) (opponent-plain b w.board)

-- who plays
players-row : (b : BoardFields) → IsBoard b → IsRow (against_row (take 30 b.player) (take 30 b.opponent))
unfolding against_row
players-row b h = record {
  plain = against_row-lacks (take 30 b.player) (take 30 b.opponent) (player-plain b h) (opponent-plain b h);
  begins = begins (take 30 b.player) _ (player-begins b h);
}

-- so all of them are whole
named-whole : (before : Option (Fact → List ℕ)) (n : Numbers) (b : BoardFields) → IsWatched b → Ranges b
    → IsWhole (words before true n b)
unfolding words
named-whole None n b w r =
    row-whole (against_row (take 30 b.player) (take 30 b.opponent)) (told_rows None (row_of true n b) 9)
    (players-row b w.board) (told-whole None (row_of true n b) (named-row n b w r))
named-whole (Some old) n b w r = told-whole (Some old) (row_of true n b) (named-row n b w r)

-- rows that are broken and joined again are the rows
pub rows_join : FieldRanges → RowsJoin
rows_join f before n b = (
  λ good. (own-whole before n b good (ranges-of f b good.board)).same,
  λ w. (named-whole before n b w (ranges-of f b w.board)).same,
)
