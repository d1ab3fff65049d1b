-- Decisions carried out one after another: a roll and one more.
use Rattle.std.proofs.Common.{◌≡◌, ◌≢◌, ℕ, ◌⊎◌, inl, inr, List, [], ◌∷◌, refl, sym, ap, ◌∙◌, arith, lit≤, cond}
use Rattle.std.specs.Prelude.{ℤ, pos, neg_ℤ, ◌+ℤ◌, ◌==◌, slice_index}
use Rattle.fibs_fields.specs.Board.{BoardFields, IsBoard, field_of}
use Rattle.fibs_fields.specs.FieldRanges.{FieldRanges}
use Rattle.fibs_rules.specs.Hop.{Hop}
use Rattle.fibs_fields.specs.FieldReading.{natural}
use Rattle.fibs_position.specs.OwnView.{turn, colour, NoDice}
use Rattle.fibs_position.specs.DecisionValue.{DecisionValue, roll, double, accept, reject, move, resign}
use Rattle.fibs_position.specs.BoardEffect.{HasTurn, Effect, rolled, turn_given, accepted, rejected, after_move}
use Rattle.fibs_position.specs.Laws.{NoThreeInARow}
use Rattle.fibs_position.proofs.BoardLemmas.ChangedFields.{field_after}
use Rattle.fibs_position.proofs.BoardLemmas.AfterMove.{moved_beside}
use Rattle.fibs_position.proofs.LawLemmas.CarriedOut.{turned, either_turn}

-- no double is to be answered, and it is not the player's turn
record Ended (b : BoardFields) : Type 0 where
  flag : field_of b 41 ≡ pos 0
  away : turn b ≢ colour b

-- no double is to be answered, and the player's dice are shown
record Thrown (b : BoardFields) : Type 0 where
  flag : field_of b 41 ≡ pos 0
  dice : ¬ NoDice b

-- if the turn is not the player's nothing is carried out
ended_none : (b : BoardFields) (d : DecisionValue) (dice : List ℕ) (after : BoardFields) → Ended b
    → Effect b d dice after → ⊥
ended_none b roll dice after h (good, (before, thrown, is)) = h.away before.0.0
ended_none b double dice after h (good, (before, is)) = h.away before.0.0
ended_none b accept dice after h (good, (asked, small, is)) = let f = sym h.flag ∙ asked.1 in absurd cc
ended_none b reject dice after h (good, (asked, is)) = let f = sym h.flag ∙ asked.1 in absurd cc
ended_none b (move steps) dice after h (good, (before, (q, run, is))) = h.away before.0.0
ended_none b (resign stake) dice after h (good, (has, is)) = h.away has.0

-- the turn goes to nobody or to the opponent
away_from : FieldRanges → (b after : BoardFields) (z : ℤ) → IsBoard b → (z ≡ pos 0) ⊎ (z ≡ neg_ℤ (colour b))
    → turn after ≡ z → colour after ≡ colour b → turn after ≢ colour after
away_from ranges b after z board which is side same = turned ranges b z board which (sym side ∙ sym same ∙ is)

-- if the turn is given to the opponent, it is over
given_ended : FieldRanges → (b : BoardFields) → IsBoard b → HasTurn b → Ended (turn_given b)
given_ended ranges b board has =
    let changes : List (ℕ × ℤ) = (33, neg_ℤ (colour b)) ∷ [] in
    let given : field_of (turn_given b) 33 ≡ neg_ℤ (colour b) = field_after ranges changes b 33 board (lit≤ tt) in
    let side : field_of (turn_given b) 42 ≡ colour b = field_after ranges changes b 42 board (lit≤ tt) in
    let flag : field_of (turn_given b) 41 ≡ field_of b 41 = field_after ranges changes b 41 board (lit≤ tt) in
    record {
      flag = flag ∙ has.1;
      away = away_from ranges b (turn_given b) (neg_ℤ (colour b)) board (inr refl) given side;
    }

-- after a move the player's turn is over
moved_ended : FieldRanges → (b : BoardFields) (steps : List Hop) (dice : List ℕ) (after : BoardFields)
    → Effect b (move steps) dice after → Ended after
moved_ended ranges b steps dice after (good, (before, (q, run, is))) =
    let next = cond (slice_index q.own 0 == 15) (pos 0) (neg_ℤ (colour b)) in
    let given : field_of (after_move b q) 33 ≡ next = moved_beside ranges b q 33 good.board (lit≤ tt) (lit≤ tt) in
    let side : field_of (after_move b q) 42 ≡ colour b = moved_beside ranges b q 42 good.board (lit≤ tt) (lit≤ tt) in
    let flag : field_of (after_move b q) 41 ≡ field_of b 41 =
    moved_beside ranges b q 41 good.board (lit≤ tt) (lit≤ tt) in
    rw is (record {
      flag = flag ∙ before.0.1;
      away = away_from ranges b (after_move b q) next good.board (either_turn b (slice_index q.own 0 == 15)) given side;
    })

-- after a decision the player's turn is over, or he has just rolled
one_after : FieldRanges → (b : BoardFields) (d : DecisionValue) (dice : List ℕ) (after : BoardFields)
    → Effect b d dice after → Ended after ⊎ Thrown after
one_after ranges b roll dice after (good, (before, thrown, is)) =
    let first = slice_index dice 0 in
    let changes : List (ℕ × ℤ) =
    (34, pos first) ∷ (35, pos (slice_index dice 1)) ∷ (36, pos 0) ∷ (37, pos 0) ∷ [] in
    let shown : field_of (rolled b dice) 34 ≡ pos first = field_after ranges changes b 34 good.board (lit≤ tt) in
    let flag : field_of (rolled b dice) 41 ≡ field_of b 41 = field_after ranges changes b 41 good.board (lit≤ tt) in
    let some = thrown.0.0 in
    inr (rw is (record {
      flag = flag ∙ before.0.1;
      dice = λ none. let f = ap natural (sym shown) ∙ none.0 in absurd (omega arith);
    }))
one_after ranges b double dice after (good, (before, is)) = inl (rw is (given_ended ranges b good.board before.0))
one_after ranges b accept dice after (good, (asked, small, is)) =
    let changes : List (ℕ × ℤ) =
    (41, pos 0) ∷ (38, field_of b 38 +ℤ field_of b 38) ∷ (39, pos 1) ∷ (40, pos 0) ∷ (33, neg_ℤ (colour b)) ∷ [] in
    let given : field_of (accepted b) 33 ≡ neg_ℤ (colour b) = field_after ranges changes b 33 good.board (lit≤ tt) in
    let side : field_of (accepted b) 42 ≡ colour b = field_after ranges changes b 42 good.board (lit≤ tt) in
    let flag : field_of (accepted b) 41 ≡ pos 0 = field_after ranges changes b 41 good.board (lit≤ tt) in
    inl (rw is (record {
      flag = flag;
      away = away_from ranges b (accepted b) (neg_ℤ (colour b)) good.board (inr refl) given side;
    }))
one_after ranges b reject dice after (good, (asked, is)) =
    let changes : List (ℕ × ℤ) = (41, pos 0) ∷ (33, pos 0) ∷ [] in
    let given : field_of (rejected b) 33 ≡ pos 0 = field_after ranges changes b 33 good.board (lit≤ tt) in
    let side : field_of (rejected b) 42 ≡ colour b = field_after ranges changes b 42 good.board (lit≤ tt) in
    let flag : field_of (rejected b) 41 ≡ pos 0 = field_after ranges changes b 41 good.board (lit≤ tt) in
    inl (rw is (record {
      flag = flag;
      away = away_from ranges b (rejected b) (pos 0) good.board (inl refl) given side;
    }))
one_after ranges b (move steps) dice after h = inl (moved_ended ranges b steps dice after h)
one_after ranges b (resign stake) dice after (good, (has, is)) = inl (rw is (given_ended ranges b good.board has))

-- after a roll only a move or a resignation is carried out
after_roll : FieldRanges → (b : BoardFields) (d : DecisionValue) (dice : List ℕ) (after : BoardFields) → Thrown b
    → Effect b d dice after → Ended after
after_roll ranges b roll dice after h (good, (before, thrown, is)) = absurd (h.dice before.1)
after_roll ranges b double dice after h (good, (before, is)) = absurd (h.dice before.1)
after_roll ranges b accept dice after h (good, (asked, small, is)) = let f = sym h.flag ∙ asked.1 in absurd cc
after_roll ranges b reject dice after h (good, (asked, is)) = let f = sym h.flag ∙ asked.1 in absurd cc
after_roll ranges b (move steps) dice after h e = moved_ended ranges b steps dice after e
after_roll ranges b (resign stake) dice after h (good, (has, is)) = rw is (given_ended ranges b good.board has)

-- so there are no three in a row
pub no_three : FieldRanges → NoThreeInARow
no_three ranges a b c z d e f dice dice' dice'' one two three = elim (one_after ranges a d dice b one) [
  | inl ended ↦ ended_none b e dice' c ended two
  | inr thrown ↦ ended_none c f dice'' z (after_roll ranges b e dice' c thrown two) three
]
