-- What a line that the user types is.
use Rattle.std.specs.Prelude.{◌≡◌, ℕ, Bool, true, false, List, codes, cond, Option, Some, None, is_none}
use Rattle.std.specs.Str.{bytes_eq}
use Rattle.fibs_fields.specs.Board.{BoardFields}
use Rattle.fibs_position.specs.DecisionValue.{DecisionValue, IsDecision}
use Rattle.fibs_position.specs.DirectionOf.{direction_of}
use Rattle.fibs_position.specs.NumbersOf.{counted}
use Rattle.fibs_position.specs.declared.direction.Direction.{Direction}
use Rattle.fibs_position.specs.declared.direction.Direction.TheVariants.{Down}
use Rattle.fibs_position.specs.declared.numbers.Numbers.{Numbers}
use Rattle.fibs_commands.specs.PlainCommands.{PlainValue}
use Rattle.fibs_commands.specs.CommandReading.{read_command}
use Rattle.fibs_commands.specs.Commands.{command_of}
use Rattle.fibs_commands.specs.PlainReading.{read_plain}
use Rattle.fibs_session.specs.History.Machine.{Talk, shown_now, answer_now, plain_refusal}

-- what was typed: a decision, a plain command, a standing order to roll, its withdrawal, or none of these
pub data TypedValue : Type 0 where
  typed_decision : DecisionValue → TypedValue
  typed_plain : PlainValue → TypedValue
  typed_order : TypedValue
  typed_withdrawal : TypedValue
  typed_none : TypedValue

-- a standing order is given, and withdrawn, by these words
abbrev pub order_in : List ℕ → TypedValue
order_in text =
    cond (bytes_eq text (codes "order roll")) typed_order
    (cond (bytes_eq text (codes "withdraw roll")) typed_withdrawal typed_none)

-- a line is tried as a decision, then as a plain command, then as a standing order
abbrev pub typed_as : Option DecisionValue → Option PlainValue → TypedValue → TypedValue
typed_as (Some d) p order = typed_decision d
typed_as None (Some p) order = typed_plain p
typed_as None None order = order

-- plays are typed in the numbers of the board that is shown
abbrev pub shown_direction : Option BoardFields → Direction
shown_direction None = Down
shown_direction (Some b) = direction_of b

-- what a text is by the numbers of a board of this direction
abbrev pub typed_in : Direction → List ℕ → TypedValue
typed_in direction text = typed_as (read_command direction text) (read_plain text) (order_in text)

-- what a text is while the board is shown that is shown now
abbrev pub typed_now : Talk → List ℕ → TypedValue
typed_now t text = typed_in (shown_direction (shown_now t)) text

-- it is one of these
abbrev pub is_command : TypedValue → Bool
is_command (typed_decision d) = true
is_command (typed_plain p) = true
is_command typed_order = true
is_command typed_withdrawal = true
is_command typed_none = false

-- the decision that it is, if it is one
abbrev pub decided : TypedValue → Option DecisionValue
decided (typed_decision d) = Some d
decided (typed_plain p) = None
decided typed_order = None
decided typed_withdrawal = None
decided typed_none = None

-- the client would take it now: a decision or a plain command that it does not refuse, or a word of its own, which no
-- server knows
abbrev pub would_take : Talk → TypedValue → Bool
would_take t (typed_decision d) = is_none (answer_now t d)
would_take t (typed_plain p) = is_none (plain_refusal t p)
would_take t typed_order = true
would_take t typed_withdrawal = true
would_take t typed_none = false

-- which way the user goes by the numbers that he reads and types, on the board that is shown now
abbrev pub way_now : Numbers → Talk → Direction
way_now numbers t = counted numbers (shown_direction (shown_now t))

-- what a text is by the numbers that the user reads and types
abbrev pub typed_by : Numbers → Talk → List ℕ → TypedValue
typed_by numbers t text = typed_in (way_now numbers t) text

-- a line in place of the one that was typed: the client reads in it what the user means by the one that he typed, which
-- stays as it is if the client reads the same in that
pub record IsMeant (numbers : Numbers) (t : Talk) (typed line : List ℕ) : Type 0 where
  pub means : is_command (typed_by numbers t typed) ≡ true → typed_now t line ≡ typed_by numbers t typed
  pub stays : typed_now t typed ≡ typed_by numbers t typed → line ≡ typed

-- the command of a decision in the numbers that the user reads is read as that decision if he types it
abbrev pub ShownIsRead : Type 0
ShownIsRead = (numbers : Numbers) (t : Talk) (d : DecisionValue) → IsDecision d
    → typed_by numbers t (command_of (way_now numbers t) d) ≡ typed_decision d
