-- Events of the program as values.
use Rattle.std.specs.Prelude.{slice_index}
use Rattle.fibs_fields.specs.StoredBoard.{fields_of}
use Rattle.fibs_position.specs.DecisionValue.{decision_of}
use Rattle.fibs_commands.specs.PlainOf.{plain_value}
use Rattle.fibs_model.specs.Events as V
use Rattle.fibs_model.specs.declared.event.Event.{Event}
use Rattle.fibs_model.specs.declared.event.Event.TheVariants as E

-- what happens, with no address in it
abbrev pub event_of : Event → V.Event
event_of E.Open = V.Open
event_of (E.Click d) = V.Click (decision_of d)
event_of (E.Plain p) = V.Plain (plain_value p)
event_of (E.Deliver n) = V.Deliver n
event_of (E.Lose k) = V.Lose k
event_of (E.Serve conn dice) = V.Serve conn (slice_index dice 0) (slice_index dice 1)
event_of (E.Own b) = V.Own (fields_of b)
event_of E.Repeat = V.Repeat
event_of (E.Text text) = V.Text text.now
event_of E.Order = V.Order
event_of E.Withdraw = V.Withdraw
