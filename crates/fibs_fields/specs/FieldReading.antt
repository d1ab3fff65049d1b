-- How fields are read one after another. Of what is public only the function `reading_value` rests on it.
use Rattle.std.specs.Prelude.{◌≡◌, ℕ, ◌+◌, ◌==◌, Bool, List, [], ◌∷◌, Option, Some, None, Result, Ok, Err, ℤ, pos, negsuc, cond, if◌then◌else◌}
use Rattle.std.specs.Str.{bytes_eq}
use Rattle.fibs_fields.specs.declared.fault.FieldFault.{FieldFault}
use Rattle.fibs_fields.specs.declared.fault.Fault.{Fault}
use Rattle.fibs_fields.specs.declared.fault.Fault.TheVariants.{Missing, Extra, BadName}
use Rattle.fibs_fields.specs.declared.reader.Fields.{Fields}
use Rattle.fibs_fields.specs.Decimal.{number_in}
use Rattle.fibs_fields.specs.Field.{Kind, the_word, a_number_of, a_name, a_word, a_tail, a_flag, a_number, a_rating, a_text, FieldValue, NameField, WordField, TailField, FlagField, NumberField, RatingField, TextField, takes_rest, may_be_absent, flag_values, number_values}
use Rattle.fibs_fields.specs.Name.{is_name}
use Rattle.fibs_fields.specs.Rating.{rating_in}
use Rattle.fibs_fields.specs.Split.{before, after, seen}
use Rattle.fibs_fields.specs.Word.{is_word, is_tail}

-- what is left of a line, and what parts its fields
pub record Left : Type 0 where
  pub separator : ℕ
  pub rest : Option (List ℕ)

-- what a reader of fields has left
abbrev pub left_of : Fields → Left
left_of f = record { separator = f.separator; rest = seen f.rest }

-- what is left, by its parts
abbrev pub left : ℕ → Option (List ℕ) → Left
left c rest = record { separator = c; rest = rest }

-- one step, and then another if the first did not fail
infixl 10 ◌>>=◌
abbrev pub ◌>>=◌ : {A B E : Type 0} → Result A E → (A → Result B E) → Result B E
(Ok x) >>= f = f x
(Err e) >>= f = Err e

-- a value if a test passes, and else no name
abbrev pub good : {A : Type 0} → Bool → A → Result A Fault
good test value = cond test (Ok value) (Err BadName)

-- a number, and 0 for one below 0
abbrev pub natural : ℤ → ℕ
natural (pos n) = n
natural (negsuc n) = 0

-- the value of a kind that a text spells, or what is wrong with it; a board keeps its word and its numbers elsewhere
unfoldable pub value_in : Kind → List ℕ → Result FieldValue Fault
value_in (the_word word) text = good (bytes_eq text word) (WordField text)
value_in a_name text = good (is_name text) (NameField text)
value_in a_word text = good (is_word text) (WordField text)
value_in a_tail text = good (is_tail text) (TailField text)
value_in a_flag text = number_in flag_values text >>= λ z. Ok (FlagField (natural z == 1))
value_in (a_number_of values) text = number_in values text >>= λ z. Ok (NumberField (natural z))
value_in a_number text = number_in number_values text >>= λ z. Ok (NumberField (natural z))
value_in a_rating text = rating_in text >>= λ r. Ok (RatingField r)
value_in a_text text = Ok (TextField text)

-- what is wrong with a field, with the number of the field
abbrev pub fault_of_field : {A : Type 0} → ℕ → Fault → Result A FieldFault
fault_of_field i f = Err (record { field = i; fault = f })

-- the same, if something is wrong
abbrev pub numbered : {A : Type 0} → ℕ → Result A Fault → Result A FieldFault
numbered i (Ok x) = Ok x
numbered i (Err f) = fault_of_field i f

-- the text of a field, and what is left after it
abbrev pub text_in : Kind → ℕ → ℕ → Option (List ℕ) → Result (List ℕ × Left) FieldFault
text_in k i c None = if may_be_absent k then Ok ([], left c None) else fault_of_field i Missing
text_in k i c (Some s) = if takes_rest k then Ok (s, left c None) else Ok (before c s, left c (after c s))

-- the same for what is left of a line
unfoldable pub text_at : Kind → ℕ → Left → Result (List ℕ × Left) FieldFault
text_at k i l = text_in k i l.separator l.rest

-- the value of a field, and what is left after it
unfoldable pub field_at : Kind → ℕ → Left → Result (FieldValue × Left) FieldFault
field_at k i l = do
  t ← text_at k i l
  v ← numbered i (value_in k t.0)
  Ok (v, t.1)

-- a text that has to be this word
abbrev pub this_word : List ℕ → List ℕ → Result (List ℕ) Fault
this_word word text = good (bytes_eq text word) word

-- what the text up to the next separator is read as, and what is left after it
unfoldable pub next_at : {A : Type 0} → (List ℕ → Result A Fault) → ℕ → Left → Result (A × Left) FieldFault
next_at read i l = do
  t ← text_at a_word i l
  x ← numbered i (read t.0)
  Ok (x, t.1)

-- nothing may be left, else the field is surplus
abbrev pub end_in : ℕ → Option (List ℕ) → Result (List FieldValue) FieldFault
end_in i None = Ok []
end_in i (Some s) = fault_of_field i Extra

-- the same for what is left of a line
unfoldable pub end_at : ℕ → Left → Result (List FieldValue) FieldFault
end_at i l = end_in i l.rest

-- the values of all fields, which are counted from i
abbrev pub fields_at : List Kind → ℕ → Left → Result (List FieldValue) FieldFault
fields_at [] i l = end_at i l
fields_at (k ∷ ks) i l = field_at k i l >>= λ x. fields_at ks (i + 1) x.1 >>= λ vs. Ok (x.0 ∷ vs)

-- what a function returned, seen by a view, is what reading gives
abbrev pub Gives : {X Y E : Type 0} → (X → Y) → Result X E → Result Y E → Type 0
Gives view (Ok x) read = read ≡ Ok (view x)
Gives view (Err e) read = read ≡ Err e
