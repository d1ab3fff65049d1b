-- What C gets of a line.
use Rattle.std.specs.Prelude.{◌≡◌, ℕ, List, Option, None, Some}
use Rattle.fibs_fields.specs.Field.{FieldValue}
use Rattle.fibs_messages.specs.FieldOf.{field_at}
use Rattle.fibs_messages.specs.Line.{ReadingValue, numbered_line, board_line, text_line, malformed_line}
use Rattle.fibs_c.specs.Records.Fields.{IsToldField, told_field}
use Rattle.fibs_c.specs.declared.records.fields.FieldRecord.{FieldRecord}

-- the field of a number, if it is a message that has one
abbrev pub field_in : ReadingValue → ℕ → Option FieldValue
field_in (numbered_line m) number = field_at number m.fields
field_in (board_line b) number = None
field_in (text_line text) number = None
field_in (malformed_line n k f) number = None

-- the field is given; or there is none, and nothing is written
abbrev pub IsFieldTold : Option FieldValue → FieldRecord → FieldRecord → List ℕ → List ℕ → ℕ → Type 0
IsFieldTold None field field' old new status = (status ≡ 506) × (new ≡ old) × (field' ≡ field)
IsFieldTold (Some v) field field' old new status = IsToldField (told_field v) field' old new status
