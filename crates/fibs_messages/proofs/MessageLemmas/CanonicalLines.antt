-- The canonical line of a message says it.
use Rattle.std.proofs.Common.{◌≡◌, ℕ, ◌+◌, ◌*◌, ◌/◌, ◌%◌, ◌<◌, List, [], ◌∷◌, ◌++◌, decimal, refl, sym, ap, subst, arith}
use Rattle.std.specs.List.{flat_map, AllByRecursion}
use Rattle.std.proofs.lemmas.List.{append-nil}
use Rattle.fibs_fields.specs.Field.{IsValue, FieldValue, NameField, WordField, TailField, FlagField, NumberField, RatingField, TextField}
use Rattle.fibs_messages.specs.Message.{MessageValue, FieldText, spelled, no_text, FieldsText, no_fields, more_fields, MessageText, canonical, canonical_field, IsMessage}
use Rattle.fibs_fields.specs.Rating.{FractionText, hundredths, RatingText}

-- two digits are a fraction
fraction_text : (n : ℕ) → n < 100 → FractionText (46 ∷ (48 + n / 10) ∷ (48 + n % 10) ∷ []) n
fraction_text n lt =
    let e : 10 * (n / 10) + n % 10 ≡ n = omega arith in
    let h : FractionText (46 ∷ (48 + n / 10) ∷ (48 + n % 10) ∷ []) (10 * (n / 10) + n % 10) =
    hundredths (omega arith) (omega arith) in
    subst (FractionText (46 ∷ (48 + n / 10) ∷ (48 + n % 10) ∷ [])) e h

-- what is printed of a rating spells it
rating_text : (r : ℕ) → RatingText r (decimal (r / 100) ++ (46 ∷ (48 + r % 100 / 10) ∷ (48 + r % 10) ∷ []))
rating_text r =
    let e : r % 100 % 10 ≡ r % 10 = omega arith in
    record {
      whole = r / 100;
      hundreds = r % 100;
      fraction = 46 ∷ (48 + r % 100 / 10) ∷ (48 + r % 10) ∷ [];
      fraction_text =
          subst (λ (d : ℕ). FractionText (46 ∷ (48 + r % 100 / 10) ∷ (48 + d) ∷ []) (r % 100)) e
          (fraction_text (r % 100) (omega arith));
      text_is = refl;
      rating_is = omega arith;
    }

-- what is printed of a field spells it
field_text : (v : FieldValue) → IsValue v → FieldText v (canonical_field v)
unfolding canonical_field
field_text (NameField s) h = spelled (h, refl)
field_text (WordField s) h = spelled (h, refl)
field_text (TailField s) h = spelled (h, refl)
field_text (FlagField b) h = spelled (tt, refl)
field_text (NumberField n) h = spelled (h, refl)
field_text (RatingField r) h = spelled (h, rating_text r)
field_text (TextField []) h = no_text
field_text (TextField (b ∷ s)) h = spelled (tt, refl)

-- and so of all fields
pub fields_text : (vs : List FieldValue) → AllByRecursion IsValue vs → FieldsText vs (flat_map canonical_field vs)
fields_text [] h = no_fields
fields_text (v ∷ vs) h = more_fields (field_text v h.0) (fields_text vs h.1)

-- the canonical line of a message says it
pub canonical_said : (m : MessageValue) → IsMessage m → MessageText m (canonical m)
canonical_said m h = record {
  number = h.number;
  kinds = h.kinds;
  text = flat_map canonical_field m.fields;
  fields = fields_text m.fields h.values;
  spaces = 0;
  no_spaces = λ e. refl;
  line_is = ap (λ (s : List ℕ). decimal m.number ++ s) (sym (append-nil (flat_map canonical_field m.fields)));
}
