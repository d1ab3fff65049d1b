-- The settings of message 2 in the parts in which they are read. No public contract rests on it.
use Rattle.std.specs.Prelude.{List, [], ◌∷◌}
use Rattle.fibs_fields.specs.Bytes.{word_bytes}
use Rattle.fibs_fields.specs.Field.{Kind, a_word, a_flag, a_number, a_rating, FieldValue, WordField, FlagField, NumberField, RatingField}
use Rattle.fibs_messages.specs.declared.reader.LastSettings.{LastSettings}
use Rattle.fibs_messages.specs.declared.reader.LaterSettings.{LaterSettings}

-- the kinds of the last settings
abbrev pub last_settings_kinds : List Kind
last_settings_kinds = a_flag ∷ a_flag ∷ a_word ∷ a_flag ∷ a_flag ∷ a_word ∷ []

-- their fields
abbrev pub last_settings_fields : LastSettings → List FieldValue
last_settings_fields s = FlagField s.ratings ∷ FlagField s.ready ∷ WordField (word_bytes s.redoubles)
    ∷ FlagField s.report ∷ FlagField s.silent ∷ WordField (word_bytes s.timezone) ∷ []

-- the kinds of the settings from the experience on
abbrev pub later_settings_kinds : List Kind
later_settings_kinds = a_number ∷ a_flag ∷ a_flag ∷ a_flag ∷ a_flag ∷ a_rating ∷ last_settings_kinds

-- their fields
abbrev pub later_settings_fields : LaterSettings → List FieldValue
later_settings_fields s = NumberField s.experience ∷ FlagField s.greedy ∷ FlagField s.moreboards ∷ FlagField s.moves
    ∷ FlagField s.notify ∷ RatingField s.rating ∷ last_settings_fields s.last
