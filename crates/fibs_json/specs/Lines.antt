-- The object that is printed for a line.
use Rattle.std.specs.Prelude.{◌≡◌, ℕ, Bool, true, false, List, [], ◌∷◌, ◌++◌, codes}
use Rattle.fibs_lines.specs.Lines.{ReadLine}
use Rattle.fibs_fields.specs.Faults.{fault_name}
use Rattle.fibs_fields.specs.declared.fault.Fault.{Fault}
use Rattle.fibs_messages.specs.Line.{ReadingValue, IsReading, numbered_line, board_line, text_line, malformed_line}
use Rattle.fibs_json.specs.Boards.{board_members, PositionMembers}
use Rattle.fibs_json.specs.Columns.{message_members}
use Rattle.fibs_json.specs.Json.{Member, member, more_member, object, quoted, string, whole}

-- the front of an object of an account: its kind, and the line
abbrev pub opening : List ℕ → List ℕ → List ℕ
opening kind bytes = codes "{\"kind\":" ++ (quoted kind ++ more_member (member (codes "line") (string bytes)))

-- an object of an account: its kind, the line, and the text of its further members
abbrev pub object_with : List ℕ → List ℕ → List ℕ → List ℕ
object_with kind bytes more = opening kind bytes ++ (more ++ (125 ∷ []))

-- the object of a line: its kind, its bytes, and what else is known of it
abbrev pub line_object : List ℕ → List ℕ → List Member → List ℕ
line_object kind bytes members =
    object (member (codes "kind") (string kind) ∷ member (codes "line") (string bytes) ∷ members)

-- what is wrong with a malformed line: its number, its first wrong field, and the fault
abbrev pub malformed_members : ℕ → ℕ → Fault → List Member
malformed_members number field fault =
    member (codes "number") (whole number)
    ∷ member (codes "field") (whole field)
    ∷ member (codes "fault") (string (fault_name fault))
    ∷ []

-- the object of a line that reads so
abbrev pub ReadObject : List ℕ → ReadingValue → List ℕ → Type 0
ReadObject bytes (numbered_line m) text = text ≡ line_object (codes "message") bytes (message_members m)
ReadObject bytes (board_line b) text =
    (members : List Member) × PositionMembers b members
    × (text ≡ line_object (codes "board") bytes (board_members b ++ members))
ReadObject bytes (text_line said) text = text ≡ line_object (codes "text") bytes []
ReadObject bytes (malformed_line number field fault) text =
    text ≡ line_object (codes "malformed") bytes (malformed_members number field fault)

-- the object of a line that is said to read so: `cut` and its kept bytes if it was cut
abbrev pub HeardAs : Bool → List ℕ → ReadingValue → List ℕ → Type 0
HeardAs true bytes reading text = text ≡ line_object (codes "cut") bytes []
HeardAs false bytes reading text = ReadObject bytes reading text

-- the same of a line as the reader of lines lends it
abbrev pub HeardObject : ReadLine → ReadingValue → List ℕ → Type 0
HeardObject line reading text = HeardAs line.cut line.bytes reading text

-- the object of a line: `cut` and its kept bytes if it was cut, else what it reads as
abbrev pub ObjectAs : Bool → List ℕ → List ℕ → Type 0
ObjectAs true bytes text = text ≡ line_object (codes "cut") bytes []
ObjectAs false bytes text = (reading : ReadingValue) × IsReading bytes reading × ReadObject bytes reading text

-- the same of a line as the reader of lines lends it
abbrev pub LineObject : ReadLine → List ℕ → Type 0
LineObject line text = ObjectAs line.cut line.bytes text

-- the front of an object tells its kind and its line, whatever follows it
abbrev pub OpeningsTell : Type 0
OpeningsTell = (j k a b x y : List ℕ) → opening j a ++ x ≡ opening k b ++ y → (j ≡ k) × (a ≡ b)

-- an object tells the line for which it is printed
abbrev pub ObjectsTellLines : Type 0
ObjectsTellLines = (l m : ReadLine) (text : List ℕ) → LineObject l text → LineObject m text → l ≡ m
