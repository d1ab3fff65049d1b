-- Two readings are equal exactly if they say the same.
use Rattle.std.proofs.Common.{◌≡◌, ℕ, List, [], ap, refl, arith}
use Rattle.std.specs.Prelude.{◌==◌, ◌&&◌}
use Rattle.std.specs.Bool.{Decides}
use Rattle.std.specs.Str.{bytes_eq}
use Rattle.std.proofs.lemmas.Bool.Decides.{Decides-eqb, Decides-and, Decides-like}
use Rattle.std.proofs.lemmas.Slice.Eq.{bytes_eq-Decides}
use Rattle.fibs_fields.specs.Board.{BoardFields}
use Rattle.fibs_fields.specs.Faults.{fault_number}
use Rattle.fibs_messages.specs.Line.{ReadingValue, numbered_line, board_line, text_line, malformed_line, reading_of}
use Rattle.fibs_messages.specs.Message.{MessageValue, message_of}
use Rattle.fibs_fields.specs.StoredBoard.{fields_of}
use Rattle.fibs_fields.specs.contracts.boards.board.BoardPartialEq.TheImpl.{eq-value as board_eq}
use Rattle.fibs_fields.specs.contracts.fault.FaultPartialEq.TheImpl.{eq-value as fault_eq}
use Rattle.fibs_messages.specs.contracts.line.ReadingPartialEq.TheImpl.{eq-value as reading_eq}
use Rattle.fibs_messages.specs.contracts.message.MessagePartialEq.TheImpl.{eq-value as message_eq}
use Rattle.fibs_fields.specs.declared.fault.Fault.{Fault}
use Rattle.fibs_fields.specs.declared.fault.Fault.TheVariants.{Missing, Extra, NotANumber, OutOfRange, BadName}
use Rattle.fibs_messages.specs.declared.line.Reading.{Reading}
use Rattle.fibs_messages.specs.declared.line.Reading.TheVariants.{Numbered, Board, Text, Malformed}
use Rattle.fibs_fields.proofs.BoardLemmas.BoardEquality.{boards_decide}
use Rattle.fibs_fields.proofs.FieldLemmas.Equality.{never}
use Rattle.fibs_messages.proofs.MessageLemmas.MessageEquality.{messages_decide}

-- what `==` answers of two faults
faults_decide : (f g : Fault) → Decides (fault_eq.it f g) (f ≡ g)
faults_decide Missing Missing = (λ e. refl, λ e. refl)
faults_decide Extra Extra = (λ e. refl, λ e. refl)
faults_decide NotANumber NotANumber = (λ e. refl, λ e. refl)
faults_decide OutOfRange OutOfRange = (λ e. refl, λ e. refl)
faults_decide BadName BadName = (λ e. refl, λ e. refl)
faults_decide f g = never (λ e. omega (arith, ap fault_number e))

-- a number by which the kinds of readings differ
abbrev kind_in : ReadingValue → ℕ
kind_in (numbered_line m) = 0
kind_in (board_line b) = 1
kind_in (text_line text) = 2
kind_in (malformed_line number k f) = 3

-- the parts of a reading
abbrev message_in : MessageValue → ReadingValue → MessageValue
message_in m (numbered_line l) = l
message_in m other = m

-- the board of a reading, or another
abbrev board_in : BoardFields → ReadingValue → BoardFields
board_in b (board_line a) = a
board_in b other = b

-- the text of a reading, if it is one
abbrev text_in : ReadingValue → List ℕ
text_in (text_line text) = text
text_in other = []

-- the number of a malformed line
abbrev number_in : ReadingValue → ℕ
number_in (malformed_line number k f) = number
number_in other = 0

-- its wrong field
abbrev field_in : ReadingValue → ℕ
field_in (malformed_line number k f) = k
field_in other = 0

-- its fault
abbrev fault_in : ReadingValue → Fault
fault_in (malformed_line number k f) = f
fault_in other = Missing

-- what `==` answers of two wrong fields
wrong_decide : (m n j k : ℕ) (f g : Fault)
    → Decides ((m == n) && ((j == k) && fault_eq.it f g)) (malformed_line m j f ≡ malformed_line n k g)
wrong_decide m n j k f g =
    Decides-like ((m == n) && ((j == k) && fault_eq.it f g)) (λ e i. malformed_line (e.0 i) (e.1.0 i) (e.1.1 i))
    (λ e. (ap number_in e, (ap field_in e, ap fault_in e)))
    (Decides-and (m == n) ((j == k) && fault_eq.it f g) (Decides-eqb m n)
    (Decides-and (j == k) (fault_eq.it f g) (Decides-eqb j k) (faults_decide f g)))

-- what `==` answers of two readings
pub readings_decide : (a b : Reading) → Decides (reading_eq.it a b) (reading_of a ≡ reading_of b)
readings_decide (Numbered l) (Numbered m) =
    Decides-like (message_eq.it l m) (ap numbered_line) (ap (message_in (message_of l))) (messages_decide l m)
readings_decide (Board a) (Board b) =
    Decides-like (board_eq.it a b) (ap board_line) (ap (board_in (fields_of a))) (boards_decide a b)
readings_decide (Text s) (Text t) =
    Decides-like (bytes_eq s.now t.now) (ap text_line) (ap text_in) (bytes_eq-Decides s.now t.now)
readings_decide (Malformed m j f) (Malformed n k g) = wrong_decide m n j k f g
readings_decide a b = never (λ e. omega (arith, ap kind_in e))
