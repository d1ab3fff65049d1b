-- What is printed for a message that is said by a line of literal bytes is literal.
use Rattle.std.proofs.Common.{◌≡◌, ℕ, ◌+◌, ◌<◌, ◌/◌, ◌%◌, ◌^◌, true, ◌&&◌, List, [], ◌∷◌, ◌++◌, replicate, refl, sym, ap, subst, ◌∙◌, arith}
use Rattle.std.specs.Fmt.{decimal}
use Rattle.std.specs.List.{list_all, flat_map}
use Rattle.std.proofs.lemmas.Bool.{and_parts}
use Rattle.std.proofs.lemmas.Fmt.{decimal_by_steps}
use Rattle.std.proofs.lemmas.List.Folds.{list_all-append}
use Rattle.fibs_lines.specs.Literal.{is_literal}
use Rattle.fibs_fields.specs.Field.{FieldValue, NameField, WordField, TailField, FlagField, NumberField, RatingField, TextField, Spells}
use Rattle.fibs_fields.specs.Rating.{printed_rating}
use Rattle.fibs_messages.specs.Message.{MessageValue, MessageText, FieldText, spelled, no_text, FieldsText, no_fields, more_fields, canonical, canonical_field}

-- each byte is literal
abbrev Literal : List ℕ → Type 0
Literal bytes = list_all is_literal bytes ≡ true

-- two lists in a row are literal if both are
joined : (l m : List ℕ) → Literal l → Literal m → Literal (l ++ m)
joined l m h i = list_all-append is_literal l m ∙ ap (λ b. b && list_all is_literal m) h ∙ i

-- and both are if the two in a row are
parts : (l m : List ℕ) → Literal (l ++ m) → Literal l × Literal m
parts l m h = and_parts (list_all is_literal l) (list_all is_literal m) (sym (list_all-append is_literal l m) ∙ h)

-- a digit
digit : (d : ℕ) → d < 10 → is_literal (48 + d) ≡ true
digit d h = grind arith

-- one of a number
one_digit : (d : ℕ) → d < 10 → Literal ((48 + d) ∷ [])
one_digit d h = ap (λ b. b && true) (digit d h)

-- a decimal
literal_decimal : (n : ℕ) → n < 2 ^ 64 → Literal (decimal n)
literal_decimal = decimal_by_steps (λ m ds. Literal ds) one_digit
    (λ m ds l h. joined ds ((48 + m % 10) ∷ []) h (one_digit (m % 10) (omega arith)))

-- a rating
literal_rating : (r : ℕ) → r < 2 ^ 32 → Literal (printed_rating r)
literal_rating r small =
    joined (decimal (r / 100)) (46 ∷ (48 + r % 100 / 10) ∷ (48 + r % 10) ∷ []) (literal_decimal (r / 100) (omega arith))
    (ap (λ b. b && list_all is_literal ((48 + r % 10) ∷ [])) (digit (r % 100 / 10) (omega arith))
    ∙ one_digit (r % 10) (omega arith))

-- a field: but for a rating it is spelled in one way
literal_value : (v : FieldValue) (text : List ℕ) → Spells v text → Literal (32 ∷ text) → Literal (canonical_field v)
unfolding canonical_field
literal_value (NameField s) text h i = subst (λ t. Literal (32 ∷ t)) h.1 i
literal_value (WordField s) text h i = subst (λ t. Literal (32 ∷ t)) h.1 i
literal_value (TailField s) text h i = subst (λ t. Literal (32 ∷ t)) h.1 i
literal_value (FlagField b) text h i = subst (λ t. Literal (32 ∷ t)) h.1 i
literal_value (NumberField n) text h i = subst (λ t. Literal (32 ∷ t)) h.1 i
literal_value (RatingField r) text h i = literal_rating r h.0
literal_value (TextField []) text h i = refl
literal_value (TextField (b ∷ s)) text h i = subst (λ t. Literal (32 ∷ t)) h.1 i

-- a field in a line
literal_field : {v : FieldValue} {text : List ℕ} → FieldText v text → Literal text → Literal (canonical_field v)
unfolding canonical_field
literal_field (spelled {v} {text} h) i = literal_value v text h i
literal_field no_text i = refl

-- fields in a line
literal_fields : {vs : List FieldValue} {texts : List ℕ} → FieldsText vs texts → Literal texts
    → Literal (flat_map canonical_field vs)
literal_fields no_fields i = refl
literal_fields (more_fields {v} {vs} {text} {texts} h hs) i =
    let two = parts text texts i in
    joined (canonical_field v) (flat_map canonical_field vs) (literal_field h two.0) (literal_fields hs two.1)

-- a message
pub literal_message : (m : MessageValue) (line : List ℕ) → MessageText m line → list_all is_literal line ≡ true
    → list_all is_literal (canonical m) ≡ true
literal_message m line h i =
    let same = ap (list_all is_literal) (sym h.line_is) ∙ i in
    let whole = parts (decimal m.number) (h.text ++ replicate h.spaces 32) same in
    joined (decimal m.number) (flat_map canonical_field m.fields) whole.0
    (literal_fields h.fields (parts h.text (replicate h.spaces 32) whole.1).0)
