-- No decision leads to a board in whose phase the player is to roll: after it he could roll and resign, which would be
-- three decisions in a row.
use Rattle.std.proofs.Common.{◌≡◌, ℕ, false, List, [], ◌∷◌, refl, sym, ◌∙◌, inl, inr, lit≤, arith}
use Rattle.std.specs.Prelude.{ℤ, pos, slice_index}
use Rattle.fibs_fields.specs.Board.{BoardFields as Board, field_of}
use Rattle.fibs_fields.specs.FieldRanges.{FieldRanges}
use Rattle.fibs_position.specs.Allowed.{IsAllowed}
use Rattle.fibs_position.specs.BoardEffect.{AreThrown, HasTurn, Effect, rolled, turn_given}
use Rattle.fibs_position.specs.DecisionValue.{DecisionValue as Decision, roll, resign}
use Rattle.fibs_position.specs.GoodBoard.{IsGood}
use Rattle.fibs_position.specs.Phases.{phase_of}
use Rattle.fibs_position.specs.declared.phase.Phase.{Phase}
use Rattle.fibs_position.specs.declared.phase.Phase.TheVariants.{RollOrDouble}
use Rattle.fibs_position.specs.declared.stake.Stake.TheVariants.{Normal}
use Rattle.fibs_position.proofs.BoardLemmas.ChangedFields.{field_after}
use Rattle.fibs_session.specs.Fibs.{is_to_roll}
use Rattle.fibs_session.specs.Owed.{Owed}

-- two dice, both 1
ones : List ℕ
ones = 1 ∷ 1 ∷ []

-- they may be thrown
ones_thrown : AreThrown ones
unfolding ones
ones_thrown = ((omega arith, omega arith), (omega arith, omega arith))

-- the player still has the turn after his roll
still_turn : FieldRanges → (b : Board) (dice : List ℕ) → IsGood b → HasTurn b → HasTurn (rolled b dice)
still_turn ranges b dice good has =
    let changes : List (ℕ × ℤ) =
    (34, pos (slice_index dice 0)) ∷ (35, pos (slice_index dice 1)) ∷ (36, pos 0) ∷ (37, pos 0) ∷ [] in
    let turn : field_of (rolled b dice) 33 ≡ field_of b 33 = field_after ranges changes b 33 good.board (lit≤ tt) in
    let side : field_of (rolled b dice) 42 ≡ field_of b 42 = field_after ranges changes b 42 good.board (lit≤ tt) in
    let flag : field_of (rolled b dice) 41 ≡ field_of b 41 = field_after ranges changes b 41 good.board (lit≤ tt) in
    (turn ∙ has.0 ∙ sym side, flag ∙ has.1)

-- no decision leads to a board on which the player is to roll
not_to_roll : Owed → (b : Board) (d : Decision) (dice : List ℕ) (next : Board) → Effect b d dice next
    → phase_of next ≡ RollOrDouble → ⊥
not_to_roll owed b d dice next e h =
    let good : IsGood next = (owed.effect_good b d dice next e).0 in
    let is = (owed.phase next RollOrDouble good).0 h in
    let may : IsAllowed next roll = record { yours = inr (inl is); right = (is, tt); legal = tt } in
    let then = owed.carried next roll ones good may ones_thrown in
    rest then.0 then.1
  where
    resigns : (after : Board) → IsGood after → HasTurn after → Effect after (resign Normal) ones (turn_given after)
    resigns after good has = (good, (has, refl))

    rest : (after : Board) → Effect next roll ones after → ⊥
    rest after (good, (before, thrown, is)) =
        let good' : IsGood after = (owed.effect_good next roll ones after (good, (before, thrown, is))).0 in
        let has : HasTurn after = rw is (still_turn owed.ranges next ones good before.0) in
        owed.no_three b next after (turn_given after) d roll (resign Normal) dice ones ones e
        (good, (before, thrown, is)) (resigns after good' has)

-- in each other phase the test of that phase fails
no_roll_phase : (p : Phase) → (p ≡ RollOrDouble → ⊥) → is_to_roll p ≡ false
no_roll_phase RollOrDouble h = absurd (h refl)
no_roll_phase p h = refl

-- so no standing order rolls on a board to which a decision leads
pub no_roll_after : Owed → (b : Board) (d : Decision) (dice : List ℕ) (next : Board) → Effect b d dice next
    → is_to_roll (phase_of next) ≡ false
no_roll_after owed b d dice next e = no_roll_phase (phase_of next) (not_to_roll owed b d dice next e)
