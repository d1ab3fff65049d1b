-- The command of a decision that was sent.
use Rattle.std.specs.Prelude.{ℕ, List}
use Rattle.fibs_position.specs.DirectionOf.{direction_of}
use Rattle.fibs_commands.specs.Commands.{command_of}
use Rattle.fibs_session.specs.History.Words.{Ask}

-- the command of a decision, in the numbers of the board that it was made on
abbrev pub asked_text : Ask → List ℕ
asked_text ask = command_of (direction_of ask.0) ask.1
