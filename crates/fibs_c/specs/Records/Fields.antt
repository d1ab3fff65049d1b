-- The fields of messages and of players, as C gets them.
use Rattle.std.specs.Prelude.{◌≡◌, ℕ, List, []}
use Rattle.fibs_fields.specs.Field.{FieldValue, NameField, WordField, TailField, FlagField, NumberField, RatingField, TextField}
use Rattle.fibs_c.specs.Records.Texts.{HandsOut, flag_of}
use Rattle.fibs_c.specs.declared.records.fields.FieldPart.{FieldPart}
use Rattle.fibs_c.specs.declared.records.fields.FieldRecord.{FieldRecord}

-- what C gets of a field: the number of its kind, its number or 0, and its bytes or none
pub record ToldField : Type 0 where
  pub kind : ℕ
  pub number : ℕ
  pub bytes : List ℕ

-- what C sees of a field, by its kind
abbrev pub told_field : FieldValue → ToldField
told_field (NameField s) = record { kind = 1; number = 0; bytes = s }
told_field (WordField s) = record { kind = 2; number = 0; bytes = s }
told_field (TailField s) = record { kind = 3; number = 0; bytes = s }
told_field (FlagField b) = record { kind = 4; number = flag_of b; bytes = [] }
told_field (NumberField n) = record { kind = 5; number = n; bytes = [] }
told_field (RatingField r) = record { kind = 6; number = r; bytes = [] }
told_field (TextField s) = record { kind = 7; number = 0; bytes = s }

-- a field is given, and its bytes are handed out
pub record IsToldField (v : ToldField) (field : FieldRecord) (old new : List ℕ) (status : ℕ) : Type 0 where
  pub kind : field.kind ≡ v.kind
  pub number : field.number ≡ v.number
  pub bytes : HandsOut v.bytes old new field.len status

-- ---- the fields of the program as values

abbrev pub part_value : FieldPart → ToldField
part_value p = record { kind = p.kind; number = p.number; bytes = p.bytes.now }
