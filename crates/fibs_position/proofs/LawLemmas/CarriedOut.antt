-- What is allowed is carried out, and what is carried out leaves a good board, which differs; the functions are the
-- relations.
use Rattle.std.proofs.Common.{◌≡◌, ◌≢◌, ℕ, ◌≤◌, ◌⊎◌, inl, inr, Bool, true, false, cond, List, [], ◌∷◌, refl, sym, ap, ◌∙◌, arith, lit≤}
use Rattle.std.specs.Prelude.{ℤ, pos, neg_ℤ, ◌+ℤ◌, ◌≤ℤ◌, ◌==◌, slice_index}
use Rattle.std.specs.Ordering.{int_eq}
use Rattle.std.proofs.lemmas.Int.{ints}
use Rattle.std.proofs.lemmas.Bool.Decides.{Decides-int_eq}
use Rattle.fibs_fields.specs.Board.{BoardFields, IsBoard, field_of, can_have, field_values}
use Rattle.fibs_fields.specs.FieldRanges.{FieldRanges}
use Rattle.fibs_position.specs.First.{IsFirst}
use Rattle.fibs_position.specs.GoodBoard.{IsGood}
use Rattle.fibs_fields.specs.FieldReading.{natural}
use Rattle.fibs_position.specs.OwnView.{turn, colour, standing_of}
use Rattle.fibs_position.specs.PositionValue.{position_of}
use Rattle.fibs_position.specs.GamePart.{Differ}
use Rattle.fibs_position.specs.DecisionValue.{roll, double, accept, reject, move, resign}
use Rattle.fibs_position.specs.Phases.{PhaseFits, IsPhase}
use Rattle.fibs_position.specs.BoardEffect.{HasTurn, BeforeRoll, BeforeMove, IsDoubled, rolled, turn_given, accepted, rejected, after_move}
use Rattle.fibs_position.specs.Laws.{PhaseIsExact, AllowedIsExact, EffectIsExact, AllowedIsTheUsers, AllowedIsCarriedOut, EffectIsGood}
use Rattle.fibs_position.specs.declared.phase.Phase.{Phase}
use Rattle.fibs_position.specs.declared.phase.Phase.TheVariants.{Over, AnswerDouble, OpponentActs, RollOrDouble, Move, Passing}
use Rattle.fibs_position.proofs.BoardLemmas.NumberRanges.{agree_at}
use Rattle.fibs_position.proofs.BoardLemmas.GamePartGroups.{groups_from_same}
use Rattle.fibs_rules.proofs.RuleLemmas.LaxPlays.{legal_lax}
use Rattle.fibs_position.proofs.BoardLemmas.SetFields.{may_turn, may_show, may_cube}
use Rattle.fibs_position.proofs.BoardLemmas.GoodTest.{BoardTest}
use Rattle.fibs_position.proofs.BoardLemmas.EffectTable.{effect_exact}
use Rattle.fibs_position.proofs.DecidingLemmas.PhaseTable.{phase_exact, board_dice}
use Rattle.fibs_position.proofs.DecidingLemmas.AllowedTable.{allowed_exact, disallowed_exact, user_decides}
use Rattle.fibs_position.proofs.BoardLemmas.ChangedFields.{field_after}
use Rattle.fibs_position.proofs.BoardLemmas.ViewAfter.{good_after}
use Rattle.fibs_position.proofs.BoardLemmas.AfterMove.{two_sides, moved_beside, good_moved}

-- the function of phases is the table
pub phase_is : FieldRanges → PhaseIsExact
phase_is ranges b phase good = phase_exact (position_of b) phase (board_dice ranges b good.board)

-- the function of refusals is the table
pub allowed_is : FieldRanges → AllowedIsExact
allowed_is ranges b d good =
    let small = board_dice ranges b good.board in
    (allowed_exact (position_of b) d small, λ why. disallowed_exact (position_of b) d why small)

-- the function of effects is the table
pub effect_is : BoardTest → EffectIsExact
effect_is test b d dice after = effect_exact test b d dice after

-- what is allowed is the user's
pub allowed_users : FieldRanges → AllowedIsTheUsers
allowed_users ranges b d good h = (user_decides (position_of b) (board_dice ranges b good.board)).1 h.yours

-- ---- what is allowed is carried out

-- of a table's lines that fit, a later one is not before
later_first : {A : Type 0} (fits : A → Type 0) (y : A) (ys : List A) (x : A) → x ≢ y → IsFirst fits (y ∷ ys) x
    → (¬ fits y) × IsFirst fits ys x
later_first fits y ys x apart (inl h) = absurd (apart h.1)
later_first fits y ys x apart (inr h) = h

-- the lines above the three in which the user decides
not_over : (b : BoardFields) (phase : Phase) → phase ≢ Over → IsPhase b phase
    → (turn b ≢ pos 0) × IsFirst (PhaseFits (position_of b))
    (AnswerDouble ∷ OpponentActs ∷ RollOrDouble ∷ Move ∷ Passing ∷ []) phase
not_over b phase apart h =
    later_first (PhaseFits (position_of b)) Over (AnswerDouble ∷ OpponentActs ∷ RollOrDouble ∷ Move ∷ Passing ∷ [])
    phase apart h

-- numbers that do not differ are equal
stable : (x y : ℤ) → ¬ (x ≢ y) → x ≡ y
stable x y h = elim (int_eq x y) as (λ t. (t ≡ true → x ≡ y) → (x ≡ y → t ≡ true) → x ≡ y) [
  | true ↦ λ yes_of _. yes_of refl
  | false ↦ λ _ no_of. absurd (h (λ e. let bad = no_of e in absurd cc))
] (Decides-int_eq x y).0 (Decides-int_eq x y).1

-- a flag that is not 1 is 0
no_flag : FieldRanges → (b : BoardFields) → IsBoard b → field_of b 41 ≢ pos 1 → field_of b 41 ≡ pos 0
no_flag ranges b board h =
    elim ((ranges.flag 41 (field_of b 41) (lit≤ tt) (lit≤ tt)).0 (ranges.held b 41 board (lit≤ tt) (lit≤ tt))) [
      | inl none ↦ none
      | inr one ↦ absurd (h one)
    ]

-- in the phases of rolling and moving the player has the turn
has_turn_from : FieldRanges → (b : BoardFields) (phase : Phase) → IsBoard b → phase ≢ Over → phase ≢ AnswerDouble
    → phase ≢ OpponentActs → IsPhase b phase → HasTurn b
    × IsFirst (PhaseFits (position_of b)) (RollOrDouble ∷ Move ∷ Passing ∷ []) phase
has_turn_from ranges b phase board over answer opponent h =
    let (_, after_over) = not_over b phase over h in
    let (flag, after_answer) =
    later_first (PhaseFits (position_of b)) AnswerDouble (OpponentActs ∷ RollOrDouble ∷ Move ∷ Passing ∷ []) phase
    answer after_over in
    let (own, rest) =
    later_first (PhaseFits (position_of b)) OpponentActs (RollOrDouble ∷ Move ∷ Passing ∷ []) phase opponent
    after_answer in
    ((stable (turn b) (colour b) own, no_flag ranges b board flag), rest)

-- the phase of rolling is before the roll
before_roll_from : FieldRanges → (b : BoardFields) → IsBoard b → IsPhase b RollOrDouble → BeforeRoll b
before_roll_from ranges b board h =
    let (turns, rest) =
    has_turn_from ranges b RollOrDouble board (λ e. absurd cc) (λ e. absurd cc) (λ e. absurd cc) h in (
      turns,
      elim rest [
        | inl here ↦ here.0
        | inr (_, inl bad) ↦ absurd cc
        | inr (_, inr (_, inl bad)) ↦
            absurd cc
        | inr (_, inr (_, inr (_, bad))) ↦ absurd bad
      ],
    )

-- the phase of moving is before a move
before_move_from : FieldRanges → (b : BoardFields) → IsBoard b → IsPhase b Move → BeforeMove b
before_move_from ranges b board h =
    let (turns, rest) = has_turn_from ranges b Move board (λ e. absurd cc) (λ e. absurd cc) (λ e. absurd cc) h in
    (turns, (later_first (PhaseFits (position_of b)) RollOrDouble (Move ∷ Passing ∷ []) Move (λ e. absurd cc) rest).0)

-- in either the player has the turn
has_turn_in : FieldRanges → (b : BoardFields) → IsBoard b → IsPhase b RollOrDouble ⊎ IsPhase b Move → HasTurn b
has_turn_in ranges b board (inl h) = (before_roll_from ranges b board h).0
has_turn_in ranges b board (inr h) = (before_move_from ranges b board h).0

-- the phase is that of answering if a double is to be answered
doubled_from : (b : BoardFields) → IsPhase b AnswerDouble → IsDoubled b
doubled_from b h =
    let (some, rest) = not_over b AnswerDouble (λ e. absurd cc) h in (
      some,
      elim rest [
        | inl here ↦ here.0
        | inr (_, inl bad) ↦ absurd cc
        | inr (_, inr (_, inl bad)) ↦ absurd cc
        | inr (_, inr (_, inr (_, inl bad))) ↦ absurd cc
        | inr (_, inr (_, inr (_, inr (_, inl bad)))) ↦ absurd cc
        | inr (_, inr (_, inr (_, inr (_, inr (_, bad))))) ↦ absurd bad
      ],
    )

-- what is allowed is carried out
pub allowed_carried : FieldRanges → AllowedIsCarriedOut
allowed_carried ranges b roll dice good h thrown =
    (rolled b dice, (good, (before_roll_from ranges b good.board h.right.0, thrown, refl)))
allowed_carried ranges b double dice good h thrown =
    (turn_given b, (good, (before_roll_from ranges b good.board h.right.0, refl)))
allowed_carried ranges b accept dice good h thrown = (accepted b, (good, (doubled_from b h.right.0, h.right.1, refl)))
allowed_carried ranges b reject dice good h thrown = (rejected b, (good, (doubled_from b h.right.0, refl)))
allowed_carried ranges b (move steps) dice good h thrown =
    let (q, run) = legal_lax (standing_of b) steps h.legal in
    (after_move b q, (good, (before_move_from ranges b good.board h.right.0, (q, run, refl))))
allowed_carried ranges b (resign stake) dice good h thrown =
    (turn_given b, (good, (has_turn_in ranges b good.board h.right.0, refl)))

-- ---- what is carried out is good and differs

-- boards that differ in one of fields 33 to 43
differs_at : (a b : BoardFields) (n : ℕ) → 33 ≤ n → n ≤ 43 → field_of a n ≢ field_of b n → Differ a b
differs_at a b n low high apart same =
    let groups = groups_from_same a b same in
    apart (agree_at (field_of a) (field_of b) 33 11 n low (omega arith) groups.1.2)

-- the turn is no longer the player's
pub turned : FieldRanges → (b : BoardFields) (z : ℤ) → IsBoard b → (z ≡ pos 0) ⊎ (z ≡ neg_ℤ (colour b)) → colour b ≢ z
turned ranges b z board (inl e) f = let two = two_sides ranges b board in absurd (omega (arith, ints))
turned ranges b z board (inr e) f = let two = two_sides ranges b board in absurd (omega (arith, ints))

-- after a move the turn is nobody's or the opponent's
pub either_turn : (b : BoardFields) (t : Bool)
    → (cond t (pos 0) (neg_ℤ (colour b)) ≡ pos 0) ⊎ (cond t (pos 0) (neg_ℤ (colour b)) ≡ neg_ℤ (colour b))
either_turn b true = inl refl
either_turn b false = inr refl

-- the other colour is a number of the turn
opposite_may : FieldRanges → (b : BoardFields) → IsBoard b → can_have 33 (neg_ℤ (colour b)) ≡ true
opposite_may ranges b board =
    let two = two_sides ranges b board in may_turn ranges (neg_ℤ (colour b)) (omega (arith, ints)) (omega (arith, ints))

-- twice a cube that can be doubled is a number of the cube
cube_may : FieldRanges → (b : BoardFields) → IsBoard b → field_of b 38 ≤ℤ pos 524288
    → can_have 38 (field_of b 38 +ℤ field_of b 38) ≡ true
cube_may ranges b board small =
    let range = (ranges.cube 38 (field_of b 38) refl).0 (ranges.held b 38 board (lit≤ tt) (lit≤ tt)) in
    may_cube ranges (field_of b 38 +ℤ field_of b 38) (omega (arith, ints, range.0)) (omega (arith, ints))

-- if a player who has the turn gives it to the opponent, the board stays good, and differs
given_good_differs : FieldRanges → (b : BoardFields) → IsGood b → HasTurn b
    → IsGood (turn_given b) × Differ b (turn_given b)
unfolding field_values
given_good_differs ranges b good has =
    let changes : List (ℕ × ℤ) = (33, neg_ℤ (colour b)) ∷ [] in
    let given : field_of (turn_given b) 33 ≡ neg_ℤ (colour b) = field_after ranges changes b 33 good.board (lit≤ tt) in
    let apart : field_of b 33 ≢ field_of (turn_given b) 33 =
    λ e. turned ranges b (neg_ℤ (colour b)) good.board (inr refl) (sym has.0 ∙ e ∙ given) in (
      good_after ranges b changes good refl (opposite_may ranges b good.board, tt),
      differs_at b (turn_given b) 33 (lit≤ tt) (lit≤ tt) apart,
    )

-- what is carried out leaves a good board, which differs
pub effect_good_differs : FieldRanges → EffectIsGood
unfolding field_values
effect_good_differs ranges b roll dice after (good, (before, thrown, is)) =
    let first = slice_index dice 0 in
    let second = slice_index dice 1 in
    let changes : List (ℕ × ℤ) = (34, pos first) ∷ (35, pos second) ∷ (36, pos 0) ∷ (37, pos 0) ∷ [] in
    let may_first = may_show ranges 34 (pos first) (lit≤ tt) (lit≤ tt) (omega (arith, ints)) (omega (arith, ints)) in
    let may_second = may_show ranges 35 (pos second) (lit≤ tt) (lit≤ tt) (omega (arith, ints)) (omega (arith, ints)) in
    let shown : field_of (rolled b dice) 34 ≡ pos first = field_after ranges changes b 34 good.board (lit≤ tt) in
    let apart : field_of b 34 ≢ field_of (rolled b dice) 34 = λ e. let none = before.1.0 in let f =
    ap natural (e ∙ shown) in absurd (omega arith) in
    rw is (
      good_after ranges b changes good refl (may_first, (may_second, (refl, (refl, tt)))),
      differs_at b (rolled b dice) 34 (lit≤ tt) (lit≤ tt) apart,
    )
effect_good_differs ranges b double dice after (good, (before, is)) =
    rw is (given_good_differs ranges b good before.0)
effect_good_differs ranges b accept dice after (good, (asked, small, is)) =
    let changes : List (ℕ × ℤ) =
    (41, pos 0) ∷ (38, field_of b 38 +ℤ field_of b 38) ∷ (39, pos 1) ∷ (40, pos 0) ∷ (33, neg_ℤ (colour b)) ∷ [] in
    let answered : field_of (accepted b) 41 ≡ pos 0 = field_after ranges changes b 41 good.board (lit≤ tt) in
    let apart : field_of b 41 ≢ field_of (accepted b) 41 = λ e. let f = sym asked.1 ∙ e ∙ answered in absurd cc in
    rw is (
      good_after ranges b changes good refl
          (refl, (cube_may ranges b good.board small, (refl, (refl, (opposite_may ranges b good.board, tt))))),
      differs_at b (accepted b) 41 (lit≤ tt) (lit≤ tt) apart,
    )
effect_good_differs ranges b reject dice after (good, (asked, is)) =
    let changes : List (ℕ × ℤ) = (41, pos 0) ∷ (33, pos 0) ∷ [] in
    let answered : field_of (rejected b) 41 ≡ pos 0 = field_after ranges changes b 41 good.board (lit≤ tt) in
    let apart : field_of b 41 ≢ field_of (rejected b) 41 = λ e. let f = sym asked.1 ∙ e ∙ answered in absurd cc in
    rw is (
      good_after ranges b changes good refl (refl, (refl, tt)),
      differs_at b (rejected b) 41 (lit≤ tt) (lit≤ tt) apart,
    )
effect_good_differs ranges b (move steps) dice after (good, (before, (q, run, is))) =
    let next = cond (slice_index q.own 0 == 15) (pos 0) (neg_ℤ (colour b)) in
    let given : field_of (after_move b q) 33 ≡ next = moved_beside ranges b q 33 good.board (lit≤ tt) (lit≤ tt) in
    let apart : field_of b 33 ≢ field_of (after_move b q) 33 =
    λ e. turned ranges b next good.board (either_turn b (slice_index q.own 0 == 15)) (sym before.0.0 ∙ e ∙ given) in
    rw is (good_moved ranges b q steps good run, differs_at b (after_move b q) 33 (lit≤ tt) (lit≤ tt) apart)
effect_good_differs ranges b (resign stake) dice after (good, (has, is)) =
    rw is (given_good_differs ranges b good has)
