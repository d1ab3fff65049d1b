-- What may happen in the world, of backgammon.
use Rattle.fibs_game.specs.Events as A
use Rattle.fibs_session.specs.Fibs.{fibs}
pub use Rattle.fibs_game.specs.Events.{Open, Click, Plain, Deliver, Lose, Serve, Own, Repeat, Text, Order, Withdraw}

-- an event, with all that is chosen in it
abbrev pub Event : Type 0
Event = A.Event fibs
