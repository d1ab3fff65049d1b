-- What C gets of a line.
use Rattle.fibs_fields.specs.Faults.{fault_number}
use Rattle.fibs_messages.specs.Line.{ReadingValue, numbered_line, board_line, text_line, malformed_line}
use Rattle.fibs_c.specs.declared.records.kinds.LineKind.{LineKind}

-- what a line is: 0 a text, 1 a message, 2 a board, 3 malformed; with a message's number, and the number, the first
-- wrong field and the fault of a line that is malformed
abbrev pub told_kind : ReadingValue → LineKind
told_kind (text_line text) = record { field = 0; kind = 0; number = 0; fault = 0 }
told_kind (numbered_line m) = record { field = 0; kind = 1; number = m.number; fault = 0 }
told_kind (board_line b) = record { field = 0; kind = 2; number = 0; fault = 0 }
told_kind (malformed_line n k f) = record { field = k; kind = 3; number = n; fault = fault_number f }
