-- When a standing order is due.
use Rattle.std.proofs.Common.{◌≡◌, ◌∷◌, [], ◌++◌, ℕ, true, List, Option, Some, None, is_none, refl, sym, ◌∙◌, ap, true≢false, ◌&&◌}
use Rattle.std.specs.Prelude.{pos}
use Rattle.std.specs.Ordering.{int_eq}
use Rattle.std.proofs.lemmas.Bool.Decides.{Decides-int_eq}
use Rattle.fibs_fields.specs.Board.{BoardFields, field_of}
use Rattle.fibs_position.specs.DecisionValue.{roll}
use Rattle.fibs_position.specs.Phases.{phase_of}
use Rattle.fibs_position.specs.declared.phase.Phase.{Phase}
use Rattle.fibs_position.specs.declared.phase.Phase.TheVariants.{RollOrDouble}
use Rattle.fibs_game.specs.declared.refusal.Refusal.{Refusal}
use Rattle.fibs_session.specs.History.Log.{Entry, Shown}
use Rattle.fibs_session.specs.History.Orders.{is_to_roll, is_due, DueOrders}
use Rattle.fibs_session.specs.History.Words.{is_ordered, is_given, orders_by, last, answer}
use Rattle.fibs_game.proofs.past.Lists.{and_left, and_right, and_both, map_no_more}

-- the one phase before the roll is RollOrDouble
roll_of : (p : Phase) → is_to_roll p ≡ true → p ≡ RollOrDouble
roll_of RollOrDouble h = refl
roll_of p h = absurd (true≢false (sym h))

-- a refusal that is found to be none is None
none_of : (o : Option Refusal) → is_none o ≡ true → o ≡ None
none_of None h = refl
none_of (Some why) h = absurd (true≢false (sym h))

-- an order is due exactly if the four facts of `Due` hold
pub due_orders : DueOrders
unfolding is_due
due_orders c log b = (
  λ h.
      let without = and_right (is_ordered c log) _ h in
      let rolls = and_left (int_eq (field_of b 39) (pos 0) && is_to_roll (phase_of b)) _ without in
      record {
        ordered = and_left (is_ordered c log) _ h;
        no_double = (Decides-int_eq (field_of b 39) (pos 0)).0 (and_left (int_eq (field_of b 39) (pos 0)) _ rolls);
        to_roll = roll_of (phase_of b) (and_right (int_eq (field_of b 39) (pos 0)) _ rolls);
        yes =
            none_of (answer log roll) (and_right (int_eq (field_of b 39) (pos 0) && is_to_roll (phase_of b)) _ without);
      },
  λ d. and_both _ _ d.ordered (and_both _ _ (and_both _ _ ((Decides-int_eq (field_of b 39) (pos 0)).1 d.no_double)
      (ap is_to_roll d.to_roll)) (ap is_none d.yes)),
)

-- an order that is due stood before the board was shown
pub due_stands : (c : ℕ) (log : List Entry) (b : BoardFields)
    → is_due c (log ++ Shown c b ∷ []) b ≡ true → is_ordered c log ≡ true
due_stands c log b h =
    ap (λ l. is_given (last l)) (sym (map_no_more (orders_by c) log (Shown c b ∷ []) refl))
    ∙ ((due_orders c (log ++ Shown c b ∷ []) b).0 h).ordered
