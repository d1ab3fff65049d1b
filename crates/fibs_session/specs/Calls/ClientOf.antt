-- What is kept of a heard line until it is lent.
use Rattle.std.specs.Prelude.{ℕ, List, [], Option, None, Some}
use Rattle.fibs_lines.specs.Lines.{ReadLine}
use Rattle.fibs_messages.specs.Line.{ReadingValue, board_line, text_line, malformed_line}
use Rattle.fibs_fields.specs.StoredBoard.{fields_of}
use Rattle.fibs_session.specs.History.Hearing.{line_reading}
use Rattle.fibs_session.specs.Calls.SessionOf.{texts_of}
use Rattle.fibs_session.specs.declared.client.owned_reading.OwnedReading.{OwnedReading}
use Rattle.fibs_session.specs.declared.client.owned_reading.OwnedReading.TheVariants as K
use Rattle.fibs_session.specs.declared.client.heard_line.Answer.{Answer}
use Rattle.fibs_session.specs.declared.client.heard_line.HeardLine.{HeardLine}

-- the reading of a line from one that borrows nothing: a message is read again
abbrev pub lent_reading : OwnedReading → ReadLine → ReadingValue
lent_reading K.Numbered l = line_reading l
lent_reading (K.Board b) l = board_line (fields_of b)
lent_reading K.Text l = text_line l.bytes
lent_reading (K.Malformed number field fault) l = malformed_line number field fault

-- the commands and what is confirmed
abbrev pub answer_commands : Option Answer → List (List ℕ)
answer_commands None = []
answer_commands (Some a) = texts_of a.send.items

-- the commands that a heard line is answered by
unfoldable pub commands_in : HeardLine → List (List ℕ)
commands_in h = answer_commands h.answer
