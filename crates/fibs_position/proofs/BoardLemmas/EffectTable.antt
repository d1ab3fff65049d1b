-- The function of what decisions lead to is the table.
use Rattle.std.proofs.Common.{◌≡◌, ℕ, ◌≤◌, Bool, true, false, cond, List, Option, Some, None, refl, sym, ap, ◌∙◌, arith}
use Rattle.std.specs.Prelude.{ℤ, pos, ◌↔◌, ◌&&◌, ◌≤ℤ◌, not, int_le, nat_le, nat_lt, slice_index, option_map}
use Rattle.std.specs.Bool.{Decides}
use Rattle.std.specs.Ordering.{int_eq}
use Rattle.std.proofs.lemmas.Int.{ints}
use Rattle.std.proofs.lemmas.Bool.{leb-true, le-leb}
use Rattle.std.proofs.lemmas.Bool.Decides.{Decides-and, Decides-not, Decides-ltb, Decides-eqb, Decides-int_eq}
use Rattle.fibs_fields.specs.Board.{BoardFields, field_of}
use Rattle.fibs_position.specs.OwnView.{turn, colour, first_die, second_die, NoDice, no_dice, own_view}
use Rattle.fibs_position.specs.GoodBoard.{good}
use Rattle.fibs_rules.specs.LaxPlays.{lax_of}
use Rattle.fibs_position.specs.DecisionValue.{DecisionValue, roll, double, accept, reject, move, resign}
use Rattle.fibs_position.specs.BoardEffect.{IsDie, AreThrown, HasTurn, BeforeRoll, BeforeMove, IsDoubled, rolled, turn_given, accepted, rejected, after_move, Carries, Effect, is_die, are_thrown, has_turn, is_doubled, carried, effect_of}
use Rattle.fibs_rules.proofs.RuleLemmas.LaxPlays.{lax_sound, lax_complete}
use Rattle.fibs_position.proofs.BoardLemmas.GoodTest.{BoardTest, good_tells, good_from}

-- the test of two natural numbers
le_decides : (a b : ℕ) → Decides (nat_le a b) (a ≤ b)
le_decides a b = (leb-true a b, le-leb a b)

-- the test of two numbers
pub int_le_decides : (x y : ℤ) → Decides (int_le x y) (x ≤ℤ y)
int_le_decides x y = (λ h. grind (arith, ints, h), λ h. grind (arith, ints, h))

-- the test of a die
die_decides : (die : ℕ) → Decides (is_die die) (IsDie die)
die_decides die = Decides-and (nat_lt 0 die) (nat_le die 6) (Decides-ltb 0 die) (le_decides die 6)

-- the test of both dice
thrown_decides : (dice : List ℕ) → Decides (are_thrown dice) (AreThrown dice)
thrown_decides dice =
    Decides-and (is_die (slice_index dice 0)) (is_die (slice_index dice 1)) (die_decides (slice_index dice 0))
    (die_decides (slice_index dice 1))

-- the test of the turn
turn_decides : (b : BoardFields) → Decides (has_turn b) (HasTurn b)
turn_decides b =
    Decides-and (int_eq (turn b) (colour b)) (int_eq (field_of b 41) (pos 0)) (Decides-int_eq (turn b) (colour b))
    (Decides-int_eq (field_of b 41) (pos 0))

-- the test of the dice shown
pub no_dice_decides : (b : BoardFields) → Decides (no_dice b) (NoDice b)
no_dice_decides b =
    Decides-and (Rattle.std.specs.Prelude.nat_eq (first_die b) 0) (Rattle.std.specs.Prelude.nat_eq (second_die b) 0)
    (Decides-eqb (first_die b) 0) (Decides-eqb (second_die b) 0)

-- the test before the roll
before_roll_decides : (b : BoardFields) → Decides (has_turn b && no_dice b) (BeforeRoll b)
before_roll_decides b = Decides-and (has_turn b) (no_dice b) (turn_decides b) (no_dice_decides b)

-- the test before a move
before_move_decides : (b : BoardFields) → Decides (has_turn b && not (no_dice b)) (BeforeMove b)
before_move_decides b =
    Decides-and (has_turn b) (not (no_dice b)) (turn_decides b) (Decides-not (no_dice b) (no_dice_decides b))

-- the test of a double that is to be answered
doubled_decides : (b : BoardFields) → Decides (is_doubled b) (IsDoubled b)
doubled_decides b =
    Decides-and (not (int_eq (turn b) (pos 0))) (int_eq (field_of b 41) (pos 1))
    (Decides-not (int_eq (turn b) (pos 0)) (Decides-int_eq (turn b) (pos 0)))
    (Decides-int_eq (field_of b 41) (pos 1))

-- what is under a test
kept : {X : Type 0} (t : Bool) (o : Option X) (x : X) → cond t o None ≡ Some x → (t ≡ true) × (o ≡ Some x)
kept true o x e = (refl, e)
kept false o x e = absurd cc

-- what is under a test that is true
under : {X : Type 0} (t : Bool) (o : Option X) → t ≡ true → cond t o None ≡ o
under t o e = rw e refl

-- what a value was made of
mapped : {X Y : Type 0} (f : X → Y) (o : Option X) (y : Y) → option_map f o ≡ Some y
    → (x : X) × (o ≡ Some x) × (f x ≡ y)
mapped f None y e = absurd cc
mapped f (Some x) y e = (x, refl, cc)

-- what the function gives is in the table
carried_sound : (b : BoardFields) (d : DecisionValue) (dice : List ℕ) (after : BoardFields)
    → carried b d dice ≡ Some after → Carries b d dice after
carried_sound b roll dice after e =
    let (test, is) = kept ((has_turn b && no_dice b) && are_thrown dice) (Some (rolled b dice)) after e in
    let h = (Decides-and (has_turn b && no_dice b) (are_thrown dice) (before_roll_decides b) (thrown_decides dice)).0
    test in
    (h.0, h.1, cc)
carried_sound b double dice after e =
    let (test, is) = kept (has_turn b && no_dice b) (Some (turn_given b)) after e in
    ((before_roll_decides b).0 test, cc)
carried_sound b accept dice after e =
    let (test, is) = kept (is_doubled b && int_le (field_of b 38) (pos 524288)) (Some (accepted b)) after e in
    let h =
    (Decides-and (is_doubled b) (int_le (field_of b 38) (pos 524288)) (doubled_decides b)
    (int_le_decides (field_of b 38) (pos 524288))).0 test in
    (h.0, h.1, cc)
carried_sound b reject dice after e =
    let (test, is) = kept (is_doubled b) (Some (rejected b)) after e in ((doubled_decides b).0 test, cc)
carried_sound b (move steps) dice after e =
    let (test, is) =
    kept (has_turn b && not (no_dice b)) (option_map (after_move b) (lax_of (own_view b) steps)) after e in
    let (q, reached, so) = mapped (after_move b) (lax_of (own_view b) steps) after is in
    ((before_move_decides b).0 test, (q, lax_sound (own_view b) q steps reached, sym so))
carried_sound b (resign stake) dice after e =
    let (test, is) = kept (has_turn b) (Some (turn_given b)) after e in ((turn_decides b).0 test, cc)

-- what is in the table the function gives
carried_complete : (b : BoardFields) (d : DecisionValue) (dice : List ℕ) (after : BoardFields) → Carries b d dice after
    → carried b d dice ≡ Some after
carried_complete b roll dice after (before, thrown, is) =
    under ((has_turn b && no_dice b) && are_thrown dice) (Some (rolled b dice))
    ((Decides-and (has_turn b && no_dice b) (are_thrown dice) (before_roll_decides b) (thrown_decides dice)).1
    (before, thrown)) ∙ ap Some (sym is)
carried_complete b double dice after (before, is) =
    under (has_turn b && no_dice b) (Some (turn_given b)) ((before_roll_decides b).1 before) ∙ ap Some (sym is)
carried_complete b accept dice after (asked, small, is) =
    under (is_doubled b && int_le (field_of b 38) (pos 524288)) (Some (accepted b))
    ((Decides-and (is_doubled b) (int_le (field_of b 38) (pos 524288)) (doubled_decides b)
    (int_le_decides (field_of b 38) (pos 524288))).1 (asked, small)) ∙ ap Some (sym is)
carried_complete b reject dice after (asked, is) =
    under (is_doubled b) (Some (rejected b)) ((doubled_decides b).1 asked) ∙ ap Some (sym is)
carried_complete b (move steps) dice after (before, (q, run, is)) =
    under (has_turn b && not (no_dice b)) (option_map (after_move b) (lax_of (own_view b) steps))
    ((before_move_decides b).1 before)
    ∙ ap (option_map (after_move b)) (lax_complete (own_view b) q steps run) ∙ ap Some (sym is)
carried_complete b (resign stake) dice after (has, is) =
    under (has_turn b) (Some (turn_given b)) ((turn_decides b).1 has) ∙ ap Some (sym is)

-- the function is the relation
pub effect_exact : BoardTest → (b : BoardFields) (d : DecisionValue) (dice : List ℕ) (after : BoardFields)
    → (effect_of b d dice ≡ Some after) ↔ Effect b d dice after
unfolding effect_of
effect_exact exact b d dice after = (
  λ e. let (test, is) = kept (good b) (carried b d dice) after e in
      (good_tells exact b test, carried_sound b d dice after is),
  λ h. under (good b) (carried b d dice) (good_from exact b h.0) ∙ carried_complete b d dice after h.1,
)

-- on a good board the table decides it
pub effect_good : (b : BoardFields) (d : DecisionValue) (dice : List ℕ) → good b ≡ true
    → effect_of b d dice ≡ carried b d dice
unfolding effect_of
effect_good b d dice e = under (good b) (carried b d dice) e

-- on every other one nothing is carried out
pub effect_bad : (b : BoardFields) (d : DecisionValue) (dice : List ℕ) → good b ≡ false → effect_of b d dice ≡ None
unfolding effect_of
effect_bad b d dice e = rw e refl
