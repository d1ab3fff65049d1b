-- A standing order to roll, of backgammon (the project's own).
use Rattle.std.specs.Prelude.{◌≡◌, ◌↔◌, ℕ, true, List, None, pos}
use Rattle.fibs_fields.specs.Board.{BoardFields, field_of}
use Rattle.fibs_position.specs.DecisionValue.{roll}
use Rattle.fibs_position.specs.Phases.{phase_of}
use Rattle.fibs_position.specs.declared.phase.Phase.TheVariants.{RollOrDouble}
use Rattle.fibs_session.specs.History.Log.{Entry}
use Rattle.fibs_session.specs.History.Words.{is_ordered, answer}
pub use Rattle.fibs_session.specs.Fibs.{is_to_roll}
unfoldable pub use Rattle.fibs_game.specs.Orders.{is_due}

-- that an order is due at a board, as four facts
pub record Due (c : ℕ) (log : List Entry) (b : BoardFields) : Type 0 where
  pub ordered : is_ordered c log ≡ true
  pub no_double : field_of b 39 ≡ pos 0
  pub to_roll : phase_of b ≡ RollOrDouble
  pub yes : answer log roll ≡ None

-- the function and the relation agree
abbrev pub DueOrders : Type 0
DueOrders = (c : ℕ) (log : List Entry) (b : BoardFields) → (is_due c log b ≡ true) ↔ Due c log b
