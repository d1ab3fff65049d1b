-- How a line is read. No public contract rests on it.
use Rattle.std.specs.Prelude.{◌≡◌, ℕ, List, Some, None, Result, Ok, Err}
use Rattle.fibs_fields.specs.declared.fault.FieldFault.{FieldFault}
use Rattle.fibs_messages.specs.declared.line.Beginning.{Beginning}
use Rattle.fibs_messages.specs.declared.line.Beginning.TheVariants.{Board, Number, Other}
use Rattle.fibs_fields.specs.Field.{FieldValue}
use Rattle.fibs_fields.specs.FieldReading.{fields_at, left}
use Rattle.fibs_messages.specs.Line.{IsBoardLine, ReadingValue, numbered_line, board_line, text_line, malformed_line}
use Rattle.fibs_messages.specs.Message.{IsNumber, kinds_of, kept, number_word}
use Rattle.fibs_fields.specs.Split.{before, after}

-- how a line begins: with `board:`, else with a number from 1 to 19 before a space or the end, else with neither
abbrev pub BeginsAs : List ℕ → Beginning → Type 0
BeginsAs line Board = IsBoardLine line
BeginsAs line (Number n) = ¬ IsBoardLine line × IsNumber n × (number_word (before 32 line) ≡ Some n)
BeginsAs line Other = ¬ IsBoardLine line × (number_word (before 32 line) ≡ None)

-- a line of the number n whose fields are as read
pub record ReadsAs (line : List ℕ) (n : ℕ) (read : Result (List FieldValue) FieldFault) : Type 0 where
  pub number : number_word (before 32 line) ≡ Some n
  pub fields : fields_at (kinds_of n) 1 (left 32 (after 32 (kept n line))) ≡ read

-- what reading a line that is no board line gives
abbrev pub IsAsRead : List ℕ → ReadingValue → Type 0
IsAsRead line (numbered_line m) = ReadsAs line m.number (Ok m.fields)
IsAsRead line (board_line b) = ⊥
IsAsRead line (text_line text) = (number_word (before 32 line) ≡ None) × (text ≡ line)
IsAsRead line (malformed_line n k f) = ReadsAs line n (Err (record { field = k; fault = f }))
