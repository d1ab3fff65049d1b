-- Which fields are in a line as they are printed. No public contract rests on it.
use Rattle.std.specs.Prelude.{◌≡◌, ℕ, ◌<◌, ◌≤◌, ◌^◌, List, [], ◌∷◌, ◌++◌, Option, Some, None, map, length, take}
use Rattle.std.specs.Fmt.{decimal}
use Rattle.std.specs.List.{flat_map, AllByRecursion}
use Rattle.fibs_fields.specs.Field.{Kind, a_name, a_word, a_tail, a_flag, a_number, a_rating, a_text, FieldValue, kind_of, IsValue}
use Rattle.fibs_messages.specs.Message.{canonical_field}
use Rattle.fibs_show.specs.declared.copied_lines.canonical.FieldKind.{FieldKind}
use Rattle.fibs_show.specs.declared.copied_lines.canonical.FieldKind.TheVariants.{Name, Word, Tail, Flag, Number, Rating, Text}

-- a kind of fields
abbrev pub kind_seen : FieldKind → Kind
kind_seen Name = a_name
kind_seen Word = a_word
kind_seen Tail = a_tail
kind_seen Flag = a_flag
kind_seen Number = a_number
kind_seen Rating = a_rating
kind_seen Text = a_text

-- kinds of fields
abbrev pub kinds_seen : List FieldKind → List Kind
kinds_seen kinds = map kind_seen kinds

-- what is left of a line, with the space before it
abbrev pub after_space : Option (List ℕ) → List ℕ
after_space None = []
after_space (Some s) = 32 ∷ s

-- the front of this length is a canonical decimal of so many digits at most
pub record BeginsDecimal (text : List ℕ) (most len : ℕ) : Type 0 where
  pub within : len ≤ length text
  pub number : ℕ
  pub small : number < 10 ^ most
  pub written : take len text ≡ decimal number

-- the front of this length is what is printed of a value of this kind
pub record Begins (k : Kind) (text : List ℕ) (len : ℕ) : Type 0 where
  pub within : len ≤ length text
  pub value : FieldValue
  pub kind : kind_of value ≡ k
  pub valid : IsValue value
  pub printed : 32 ∷ take len text ≡ canonical_field value

-- the next field is what is printed of a value of this kind
pub record Stands (k : Kind) (o p : Option (List ℕ)) : Type 0 where
  pub value : FieldValue
  pub kind : kind_of value ≡ k
  pub valid : IsValue value
  pub text : after_space o ≡ canonical_field value ++ after_space p

-- the next fields are too, with values of these kinds
pub record AllStand (ks : List Kind) (o p : Option (List ℕ)) : Type 0 where
  pub values : List FieldValue
  pub kinds : map kind_of values ≡ ks
  pub valid : AllByRecursion IsValue values
  pub text : after_space o ≡ flat_map canonical_field values ++ after_space p
