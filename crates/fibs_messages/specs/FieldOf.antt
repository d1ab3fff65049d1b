-- The fields of a message of the program as values.
use Rattle.std.specs.Prelude.{ℕ, ◌-◌, List, [], ◌∷◌, map, Option, None, nat_eq, slice_get, if◌then◌else◌}
use Rattle.fibs_messages.specs.declared.field.Field.{Field}
use Rattle.fibs_messages.specs.declared.field.Field.TheVariants.{Name, Word, Tail, Flag, Number, Rating, Text}
use Rattle.fibs_messages.specs.declared.field.FieldList.{FieldList}
use Rattle.fibs_messages.specs.declared.field.FieldList.TheVariants as L
use Rattle.fibs_messages.specs.Message.{own_info_fields, who_info_fields}
use Rattle.fibs_fields.specs.Field.{FieldValue, NameField, WordField, TailField, FlagField, NumberField, RatingField, TextField}
use Rattle.fibs_fields.specs.Bytes.{name_bytes, word_bytes, tail_bytes}

-- a field
abbrev pub value_of : Field → FieldValue
value_of (Name name) = NameField (name_bytes name)
value_of (Word word) = WordField (word_bytes word)
value_of (Tail tail) = TailField (tail_bytes tail)
value_of (Flag flag) = FlagField flag
value_of (Number number) = NumberField number
value_of (Rating rating) = RatingField rating
value_of (Text text) = TextField text.now

-- some fields
abbrev pub values_of : List Field → List FieldValue
values_of fields = map value_of fields

-- those of a message
abbrev pub listed : FieldList → List FieldValue
listed L.None = []
listed (L.One only) = value_of only ∷ []
listed (L.Two first last) = value_of first ∷ value_of last ∷ []
listed (L.Three first second last) = value_of first ∷ value_of second ∷ value_of last ∷ []
listed (L.OwnInfo info) = own_info_fields info.now
listed (L.WhoInfo info) = who_info_fields info.now

-- the field of a number: they are counted from 1
abbrev pub field_at : ℕ → List FieldValue → Option FieldValue
field_at number fields = if nat_eq number 0 then None else slice_get fields (number - 1)
