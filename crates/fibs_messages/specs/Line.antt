-- What a line of the server is, and what a reading says of it (FIBS CLIP specification 1008; FIBS board style 3).
use Rattle.std.specs.Prelude.{◌≡◌, ◌==◌, ◌⊎◌, List, [], ◌∷◌, ℕ, ℤ, pos, Option, Some, None, Result, Ok, Err, codes, Bool, true, if◌then◌else◌}
use Rattle.std.specs.List.{starts_with}
use Rattle.fibs_fields.specs.Board.{BoardFields, BoardText, Wrong, field_values, kinds, pieces}
use Rattle.fibs_fields.specs.Spaces.{without_spaces}
use Rattle.fibs_fields.specs.BoardReading.{first_fault}
use Rattle.fibs_fields.specs.Decimal.{number_in}
use Rattle.fibs_fields.specs.Field.{FieldValue}
use Rattle.fibs_fields.specs.FieldReading.{fields_at, left}
use Rattle.fibs_messages.specs.Message.{MessageValue, MessageText, IsNumbered, WrongMessage, kinds_of, kept, number_word, message_of}
use Rattle.fibs_fields.specs.Split.{before, after}
use Rattle.fibs_fields.specs.declared.fault.FieldFault.{FieldFault}
use Rattle.fibs_fields.specs.declared.fault.Fault.{Fault}
use Rattle.fibs_fields.specs.declared.values.Values.{Values}
use Rattle.fibs_fields.specs.StoredBoard.{fields_of}
use Rattle.fibs_messages.specs.declared.line.Reading.{Reading}
use Rattle.fibs_messages.specs.declared.line.Reading.TheVariants.{Numbered, Board, Text, Malformed}

-- whether the line begins with `board:`
abbrev pub begins_a_board : List ℕ → Bool
begins_a_board line = starts_with (λ a b. a == b) line (codes "board:")

-- a board line begins with `board:`
abbrev pub IsBoardLine : List ℕ → Type 0
IsBoardLine line = begins_a_board line ≡ true

-- what a reading says: a message; a board; a text; or the line's number (0 for a board line), its first wrong field and
-- what is wrong there
pub data ReadingValue : Type 0 where
  numbered_line : MessageValue → ReadingValue
  board_line : BoardFields → ReadingValue
  text_line : List ℕ → ReadingValue
  malformed_line : ℕ → ℕ → Fault → ReadingValue

-- a board line with a first wrong field, or a numbered line with one
abbrev pub IsMalformed : List ℕ → ℕ → ℕ → Fault → Type 0
IsMalformed line number k f = (IsBoardLine line × (number ≡ 0) × Wrong line k f) ⊎ WrongMessage line number k f

-- a line that is neither a board line nor a numbered one
abbrev pub IsText : List ℕ → Type 0
IsText line = ¬ IsBoardLine line × ¬ IsNumbered line

-- this is the reading of the line
abbrev pub IsReading : List ℕ → ReadingValue → Type 0
IsReading line (numbered_line m) = MessageText m line
IsReading line (board_line b) = IsBoardLine line × BoardText b line
IsReading line (text_line text) = IsText line × (text ≡ line)
IsReading line (malformed_line number k f) = IsMalformed line number k f

-- ---- the same as functions

-- the numbers that the texts spell, each one that its field may have
abbrev pub number_or_0 : Result ℤ Fault → ℤ
number_or_0 (Ok z) = z
number_or_0 (Err f) = pos 0

-- the same for all fields
abbrev pub numbers_in : List Values → List (List ℕ) → List ℤ
numbers_in (v ∷ vs) (p ∷ ps) = number_or_0 (number_in v p) ∷ numbers_in vs ps
numbers_in vs ps = []

-- the board of pieces that are right
abbrev pub board_in : List (List ℕ) → BoardFields
board_in (word ∷ player ∷ opponent ∷ ps) =
    record { player = player; opponent = opponent; numbers = numbers_in field_values ps }
board_in ps = record { player = []; opponent = []; numbers = [] }

-- what a board line is, from its first wrong field, if any, and its pieces
abbrev pub board_reading : Option FieldFault → List (List ℕ) → ReadingValue
board_reading None ps = board_line (board_in ps)
board_reading (Some e) ps = malformed_line 0 e.field e.fault

-- what a numbered line is, from the values of its fields or the first that is wrong
abbrev pub message_reading : ℕ → Result (List FieldValue) FieldFault → ReadingValue
message_reading n (Ok fields) = numbered_line (record { number = n; fields = fields })
message_reading n (Err e) = malformed_line n e.field e.fault

-- what a line other than a board line is, from the number with which it begins, if any
abbrev pub other_reading : Option ℕ → List ℕ → ReadingValue
other_reading None line = text_line line
other_reading (Some n) line = message_reading n (fields_at (kinds_of n) 1 (left 32 (after 32 (kept n line))))

-- the reading of a line
unfoldable pub reading_value : List ℕ → ReadingValue
reading_value line =
    if starts_with (λ a b. a == b) line (codes "board:")
    then board_reading (first_fault 1 kinds (pieces (without_spaces line))) (pieces (without_spaces line))
    else other_reading (number_word (before 32 line)) line

-- the reading is of this number: that of a message, or of a malformed line
abbrev pub IsOfNumber : ℕ → ReadingValue → Type 0
IsOfNumber n (numbered_line m) = m.number ≡ n
IsOfNumber n (board_line b) = ⊥
IsOfNumber n (text_line text) = ⊥
IsOfNumber n (malformed_line number k f) = number ≡ n

-- it is the line's reading
abbrev pub ReadingIsExact : Type 0
ReadingIsExact = (line : List ℕ) → IsReading line (reading_value line)

-- ---- the readings of the program as values

-- what the reading says, with no address in it
abbrev pub reading_of : Reading → ReadingValue
reading_of (Numbered m) = numbered_line (message_of m)
reading_of (Board b) = board_line (fields_of b)
reading_of (Text text) = text_line text.now
reading_of (Malformed number field fault) = malformed_line number field fault
