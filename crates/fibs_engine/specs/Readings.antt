-- What is printed for what a line says.
use Rattle.std.specs.Prelude.{ℕ, List, ◌∷◌, ◌++◌, codes}
use Rattle.std.specs.Fmt.{decimal}
use Rattle.fibs_fields.specs.Board.{spelling}
use Rattle.fibs_messages.specs.Line.{ReadingValue, numbered_line, board_line, text_line, malformed_line}
use Rattle.fibs_messages.specs.Message.{canonical}
use Rattle.fibs_fields.specs.Faults.{fault_name}
use Rattle.fibs_engine.specs.Escape.{escaped}

-- the message by its canonical line; the board as it is spelled; the text; or the number, the field and the fault of a
-- malformed line
abbrev pub reading_text : ReadingValue → List ℕ
reading_text (numbered_line message) = codes "message " ++ escaped (canonical message)
reading_text (board_line board) = spelling board
reading_text (text_line text) = codes "text " ++ escaped text
reading_text (malformed_line number field fault) =
    codes "malformed " ++ (decimal number ++ (32 ∷ (decimal field ++ (32 ∷ fault_name fault))))
