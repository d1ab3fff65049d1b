-- Which events are refused, of backgammon.
use Rattle.std.specs.Prelude.{Bool, List}
use Rattle.fibs_game.specs.Refusals as A
use Rattle.fibs_lines.specs.Lines.{ReadLine}
use Rattle.fibs_messages.specs.Line.{ReadingValue}
use Rattle.fibs_session.specs.Fibs.{fibs, says}
pub use Rattle.fibs_game.specs.Refusals.{refusal}

-- a good board
abbrev pub reads_as_board : ReadingValue → Bool
reads_as_board r = A.reads_as_board fibs (says r)

-- more than one line, or one that reads as a good board
abbrev pub is_board_text : List ReadLine → Bool
is_board_text = A.is_board_text fibs
