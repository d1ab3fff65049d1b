-- Inputs as values.
use Rattle.fibs_position.specs.DecisionValue.{decision_of}
use Rattle.fibs_session.specs.History.Machine.{InputValue, Open, Lose, Piece, Click, PlainInput, Order, Withdraw}
use Rattle.fibs_commands.specs.PlainOf.{plain_value}
use Rattle.fibs_session.specs.declared.client.input.Input.{Input}
use Rattle.fibs_session.specs.declared.client.input.Input.TheVariants as I

abbrev pub input_of : Input → InputValue
input_of I.Open = Open
input_of I.Lose = Lose
input_of (I.Piece piece) = Piece piece.now
input_of (I.Click d) = Click (decision_of d)
input_of (I.Plain p) = PlainInput (plain_value p)
input_of I.Order = Order
input_of I.Withdraw = Withdraw
