-- The fields of a board and of a message: their kinds, how a value is spelled, and what is wrong with other texts.
use Rattle.std.specs.Prelude.{◌≡◌, ℕ, ◌+◌, ◌-◌, ◌<◌, Bool, true, false, List, [], ◌∷◌, Option, Some, None, decimal, pos, slice_get, if◌then◌else◌, cond}
use Rattle.std.specs.Result.{result_err}
use Rattle.std.specs.Str.{bytes_eq}
use Rattle.fibs_fields.specs.declared.fault.Fault.{Fault}
use Rattle.fibs_fields.specs.declared.fault.Fault.TheVariants.{Missing, Extra, BadName}
use Rattle.fibs_fields.specs.declared.values.Values.{Values}
use Rattle.fibs_fields.specs.declared.values.Values.TheVariants.{Between}
use Rattle.fibs_fields.specs.Decimal.{numbers_of_32_bits, numbers_of_64_bits, number_in}
use Rattle.fibs_fields.specs.Name.{is_name}
use Rattle.fibs_fields.specs.Rating.{RatingText, rating_in, printed_rating}
use Rattle.fibs_fields.specs.Split.{before, after}
use Rattle.fibs_fields.specs.Word.{is_word, is_tail}

-- what a field has to be
pub data Kind : Type 0 where
  -- this word and no other
  the_word : List ℕ → Kind
  a_name : Kind
  a_word : Kind
  -- the rest of the line, which does not end in a space
  a_tail : Kind
  a_flag : Kind
  -- one of these numbers
  a_number_of : Values → Kind
  -- a number of 64 bits
  a_number : Kind
  a_rating : Kind
  -- the rest of the line, whatever it is
  a_text : Kind

-- the value of a field; a rating is counted in hundredths
pub data FieldValue : Type 0 where
  NameField : List ℕ → FieldValue
  WordField : List ℕ → FieldValue
  TailField : List ℕ → FieldValue
  FlagField : Bool → FieldValue
  NumberField : ℕ → FieldValue
  RatingField : ℕ → FieldValue
  TextField : List ℕ → FieldValue

-- the kind of a value
abbrev pub kind_of : FieldValue → Kind
kind_of (NameField s) = a_name
kind_of (WordField s) = a_word
kind_of (TailField s) = a_tail
kind_of (FlagField b) = a_flag
kind_of (NumberField n) = a_number
kind_of (RatingField n) = a_rating
kind_of (TextField s) = a_text

-- a tail and a text are all that is left of the line
abbrev pub takes_rest : Kind → Bool
takes_rest a_tail = true
takes_rest a_text = true
takes_rest k = false

-- a text may be absent, which is an empty one
abbrev pub may_be_absent : Kind → Bool
may_be_absent a_text = true
may_be_absent k = false

-- a flag is 0 or 1
abbrev pub flag_text : Bool → List ℕ
flag_text b = (if b then 49 else 48) ∷ []

-- the one way in which a value is printed
abbrev pub canonical_text : FieldValue → List ℕ
canonical_text (NameField s) = s
canonical_text (WordField s) = s
canonical_text (TailField s) = s
canonical_text (FlagField b) = flag_text b
canonical_text (NumberField n) = decimal n
canonical_text (RatingField r) = printed_rating r
canonical_text (TextField s) = s

-- what a value has to hold
abbrev pub IsValue : FieldValue → Type 0
IsValue (NameField s) = is_name s ≡ true
IsValue (WordField s) = is_word s ≡ true
IsValue (TailField s) = is_tail s ≡ true
IsValue (FlagField b) = Unit {0}
IsValue (NumberField n) = n < numbers_of_64_bits
IsValue (RatingField r) = r < numbers_of_32_bits
IsValue (TextField s) = Unit {0}

-- the texts that say a value: the one that is printed, and others for a rating
abbrev pub IsSpelling : FieldValue → List ℕ → Type 0
IsSpelling (RatingField r) text = RatingText r text
IsSpelling v text = text ≡ canonical_text v

-- the ways in which a value may be spelled
abbrev pub Spells : FieldValue → List ℕ → Type 0
Spells v text = IsValue v × IsSpelling v text

-- the numbers of a flag
abbrev pub flag_values : Values
flag_values = Between (pos 0) (pos 1)

-- the numbers of 64 bits
abbrev pub number_values : Values
number_values = Between (pos 0) (pos (numbers_of_64_bits - 1))

-- a text that is not a name, or not the word that has to be there
abbrev pub bad_name_unless : Bool → Option Fault
bad_name_unless good = cond good None (Some BadName)

-- what is wrong with a text that has to be of a kind, if anything
abbrev pub fault_in : Kind → List ℕ → Option Fault
fault_in (the_word word) text = bad_name_unless (bytes_eq text word)
fault_in a_name text = bad_name_unless (is_name text)
fault_in a_word text = bad_name_unless (is_word text)
fault_in a_tail text = bad_name_unless (is_tail text)
fault_in a_flag text = result_err (number_in flag_values text)
fault_in (a_number_of values) text = result_err (number_in values text)
fault_in a_number text = result_err (number_in number_values text)
fault_in a_rating text = result_err (rating_in text)
fault_in a_text text = None

-- the texts at the places of the fields, each up to the next separator; a tail and a text are all that is left,
-- and what is left after the last field is one text more
abbrev pub texts_for : List Kind → ℕ → Option (List ℕ) → List (List ℕ)
texts_for ks separator None = []
texts_for [] separator (Some rest) = rest ∷ []
texts_for (k ∷ ks) separator (Some rest) =
    if takes_rest k then rest ∷ [] else before separator rest ∷ texts_for ks separator (after separator rest)

-- why a place is wrong: its text is absent, surplus, or not of its kind
abbrev pub fault_between : Option Kind → Option (List ℕ) → Option Fault
fault_between (Some k) (Some text) = fault_in k text
fault_between (Some k) None = if may_be_absent k then None else Some Missing
fault_between None (Some text) = Some Extra
fault_between None None = None

-- why field i of the texts, counted from 0, is wrong against the kinds
abbrev pub fault_at : List Kind → List (List ℕ) → ℕ → Option Fault
fault_at ks texts i = fault_between (slice_get ks i) (slice_get texts i)

-- the places 0, 1, 2 and so on each have a fault or none: field k, counted from 1, has the fault f, and no field before
-- it has one
abbrev pub IsFirstFault : (ℕ → Option Fault) → ℕ → Fault → Type 0
IsFirstFault fault k f = (i : ℕ) × (k ≡ i + 1) × (fault i ≡ Some f) × ((j : ℕ) → j < i → fault j ≡ None)
