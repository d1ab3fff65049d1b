-- The fields of message 5 in the parts in which they are read. No public contract rests on it.
use Rattle.std.specs.Prelude.{List, [], ◌∷◌}
use Rattle.fibs_fields.specs.Bytes.{word_bytes, tail_bytes}
use Rattle.fibs_fields.specs.Field.{Kind, a_word, a_tail, a_number, a_rating, FieldValue, WordField, TailField, NumberField, RatingField}
use Rattle.fibs_messages.specs.declared.reader.RatedInfo.{RatedInfo}

-- the kinds of the fields from the rating on
abbrev pub rated_info_kinds : List Kind
rated_info_kinds = a_rating ∷ a_number ∷ a_number ∷ a_number ∷ a_word ∷ a_word ∷ a_tail ∷ []

-- these fields
abbrev pub rated_info_fields : RatedInfo → List FieldValue
rated_info_fields i = RatingField i.rating ∷ NumberField i.experience ∷ NumberField i.idle ∷ NumberField i.login
    ∷ WordField (word_bytes i.hostname) ∷ WordField (word_bytes i.client) ∷ TailField (tail_bytes i.email) ∷ []
