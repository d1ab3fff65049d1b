-- What a line says to a client, of backgammon.
use Rattle.std.specs.Prelude.{ℕ, List}
use Rattle.fibs_fields.specs.Board.{BoardFields}
use Rattle.fibs_messages.specs.Message.{MessageValue}
use Rattle.fibs_messages.specs.Line.{ReadingValue}
use Rattle.fibs_game.specs.Game.{Says}
use Rattle.fibs_game.specs.Hearing as A
use Rattle.fibs_session.specs.Fibs.{fibs}
use Rattle.fibs_session.specs.History.Log.{Entry}
pub use Rattle.fibs_session.specs.Fibs.{line_reading, flags_of, initial_commands, says, message_says}
pub use Rattle.fibs_game.specs.Hearing.{nothing_heard, notes, confirmed_by_board, shown_entries, shows_board, heard_board}

-- the answer to a line on a connection
abbrev pub Heard : Type 0
Heard = A.Heard fibs

-- by the connection, the log before the line, and what the line says
abbrev pub heard_says : ℕ → List Entry → Says BoardFields MessageValue → Heard
heard_says = A.heard

-- by the line's reading
abbrev pub heard : ℕ → List Entry → ReadingValue → Heard
heard c log r = A.heard c log (says r)

-- a numbered message
abbrev pub heard_message : ℕ → List Entry → MessageValue → Heard
heard_message c log m = A.heard c log (message_says m)
