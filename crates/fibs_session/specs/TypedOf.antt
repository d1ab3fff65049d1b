-- What the program reads in a typed line, as a value.
use Rattle.fibs_commands.specs.PlainOf.{plain_value}
use Rattle.fibs_position.specs.DecisionValue.{decision_of}
use Rattle.fibs_session.specs.declared.typed.typing.Typed.{Typed}
use Rattle.fibs_session.specs.declared.typed.typing.Typed.TheVariants as T
use Rattle.fibs_session.specs.Typing.{TypedValue, typed_decision, typed_plain, typed_order, typed_withdrawal, typed_none}

abbrev pub typed_value : Typed → TypedValue
typed_value (T.Decision d) = typed_decision (decision_of d)
typed_value (T.Plain p) = typed_plain (plain_value p)
typed_value T.Order = typed_order
typed_value T.Withdrawal = typed_withdrawal
typed_value T.Unknown = typed_none
