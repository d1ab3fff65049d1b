-- The lines of the plain account.
use Rattle.std.specs.Prelude.{◌++◌, ℕ, List, [], ◌∷◌, codes, Option, Some, None, slice_get, if◌then◌else◌}
use Rattle.std.specs.Fmt.{decimal}
use Rattle.std.specs.List.{flat_map}
use Rattle.fibs_lines.specs.Lines.{ReadLine}
use Rattle.fibs_fields.specs.Field.{FieldValue, canonical_text}
use Rattle.fibs_messages.specs.Message.{MessageValue}
use Rattle.fibs_messages.specs.Line.{ReadingValue, numbered_line, board_line, text_line, malformed_line}
use Rattle.fibs_messages.specs.Directory.Faults.{directory_fault_number, directory_fault_name}
use Rattle.fibs_messages.specs.declared.directory.fault.DirectoryFault.{DirectoryFault}
use Rattle.fibs_game.specs.declared.refusal.Refusal.{Refusal}
use Rattle.fibs_session.specs.declared.histories.refusal.PlainRefusal.{PlainRefusal}
use Rattle.fibs_session.specs.declared.histories.refusal.PlainRefusal.TheVariants as P
use Rattle.fibs_session.specs.History.Refusals.{refusal_number, refusal_name, plain_refusal_number, plain_refusal_name}
use Rattle.fibs_session.specs.History.Asked.{asked_text}
use Rattle.fibs_session.specs.History.Words.{Ask}
use Rattle.fibs_engine.specs.Escape.{escaped}
use Rattle.fibs_engine.specs.Printing.{line_bytes}
use Rattle.fibs_engine.specs.Readings.{reading_text}

-- printed lines, one after another
abbrev pub text_of_lines : List (List ℕ) → List ℕ
text_of_lines = flat_map line_bytes

-- how a whole line is printed: as by `show`, but that a message is printed as it was spelled
abbrev pub said_text : List ℕ → ReadingValue → List ℕ
said_text bytes (numbered_line m) = codes "message " ++ escaped bytes
said_text bytes (board_line b) = reading_text (board_line b)
said_text bytes (text_line text) = reading_text (text_line text)
said_text bytes (malformed_line number k f) = reading_text (malformed_line number k f)

-- how a line is printed: if it was cut, its kept bytes
abbrev pub heard_text : ReadLine → ReadingValue → List ℕ
heard_text line r = if line.cut then codes "cut " ++ escaped line.bytes else said_text line.bytes r

-- the line of a decision that a board confirms
abbrev pub confirmed_line : Ask → List ℕ
confirmed_line ask = codes "confirmed " ++ asked_text ask

-- the line of a connection that is over, with this decision unconfirmed
abbrev pub lost_line : Option Ask → List ℕ
lost_line None = codes "lost"
lost_line (Some ask) = codes "lost " ++ asked_text ask

-- the lines that say why nothing is done

abbrev pub reason_line : List ℕ → ℕ → List ℕ → List ℕ
reason_line label number name = label ++ (decimal number ++ (32 ∷ name))

abbrev pub refused_line : Refusal → List ℕ
refused_line why = reason_line (codes "refused ") (refusal_number why) (refusal_name why)

-- a fault is one of the command itself, whatever the client's state
abbrev pub plain_label : PlainRefusal → List ℕ
plain_label P.Offline = codes "refused "
plain_label P.NotOn = codes "refused "
plain_label (P.Fault fault) = codes "fault "

-- the line of a plain command that is refused
abbrev pub plain_line : PlainRefusal → List ℕ
plain_line why = reason_line (plain_label why) (plain_refusal_number why) (plain_refusal_name why)

-- why the directory took no note
abbrev pub unnoted_line : DirectoryFault → List ℕ
unnoted_line why = reason_line (codes "directory ") (directory_fault_number why) (directory_fault_name why)

-- a field as the message's canonical line spells it; a rating has two digits after its point
abbrev pub field_text : Option FieldValue → List ℕ
field_text None = []
field_text (Some value) = canonical_text value

-- the first field of a message 5 is the player's name, and the sixth the rating
abbrev pub player_line : MessageValue → List ℕ
player_line told =
    codes "player " ++ (field_text (slice_get told.fields 0) ++ (32 ∷ field_text (slice_get told.fields 5)))
