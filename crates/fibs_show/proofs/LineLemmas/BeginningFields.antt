-- A front of a text that has the form of a field is what is printed of its value.
use Rattle.std.proofs.Common.{◌≡◌, ◌≢◌, ◌∙◌, ℕ, suc, ◌+◌, ◌-◌, ◌*◌, ◌/◌, ◌%◌, ◌^◌, ◌<◌, ◌≤◌, ◌==◌, true, false, not, List, [], ◌∷◌, ◌++◌, decimal, length, get_or, take, drop, refl, sym, ap, arith, add-one, inl, inr, nat_lt, length-append, rules}
use Rattle.std.specs.Prelude.{◌||◌}
use Rattle.std.specs.Char.{is_ascii_digit}
use Rattle.std.specs.List.{list_all, prefix_len}
use Rattle.std.specs.Str.Parse.{digits_value}
use Rattle.std.proofs.Math.Seq.{drop-cons, take-add, take-append_seam}
use Rattle.std.proofs.lemmas.Bool.{and_from, cases_eq, eq-eqb, ne_eqb, lt-ltb, or_right}
use Rattle.std.proofs.lemmas.List.{take_all, get_or-take, length-take-le}
use Rattle.std.proofs.lemmas.List.Sums.{prefix_len-le-length}
use Rattle.std.proofs.lemmas.Str.Parse.{numerals_by_value, digits_value_short}
use Rattle.fibs_fields.specs.Decimal.{is_positive, is_zero}
use Rattle.fibs_fields.specs.Field.{a_name, a_word, a_tail, a_flag, a_number, a_rating, a_text, NameField, WordField, TailField, FlagField, NumberField, RatingField, TextField}
use Rattle.fibs_fields.specs.Name.{is_name_byte}
use Rattle.fibs_fields.specs.Rating.{printed_rating}
use Rattle.fibs_fields.specs.Split.{before, after}
use Rattle.fibs_fields.proofs.FieldLemmas.NameFronts.{front_passes, front_is_name}
use Rattle.fibs_fields.proofs.FieldLemmas.Splits.{behind, before-behind, has_no}
use Rattle.fibs_fields.proofs.NumberLemmas.Digits.{is_digit_range}
use Rattle.fibs_fields.proofs.NumberLemmas.Naturals.{plain_spelled}
use Rattle.fibs_fields.proofs.NumberLemmas.Spelled.{positive_from}
use Rattle.fibs_messages.specs.Message.{canonical_field}
use Rattle.fibs_show.specs.Standing.{Begins, BeginsDecimal}

-- ---- names

-- some bytes of a name are one
pub name_begins : (text : List ℕ) (n : ℕ) → n ≡ prefix_len is_name_byte text → 0 < n → n ≤ 64 → Begins a_name text n
unfolding canonical_field
name_begins text n is some few = record {
  within = omega (arith, prefix_len-le-length is_name_byte text);
  value = NameField (take n text);
  kind = refl;
  valid = front_is_name text n is some few;
  printed = refl;
}

-- ---- words

-- no space is before the first
before_no : (c : ℕ) (s : List ℕ) → has_no c (before c s) ≡ true
before_no c [] = refl
before_no c (b ∷ s) = elim (cases_eq b c) [
  | inl e ↦ rw (eq-eqb b c e) refl
  | inr n ↦ rw (ne_eqb b c n) (rw (ne_eqb b c n) (before_no c s))
]

-- what is before the first space is a word, if it is not empty
pub word_begins : (text w : List ℕ) (n : ℕ) → w ≡ before 32 text → n ≡ length w → 0 < n → Begins a_word text n
unfolding canonical_field
word_begins text w n is long some =
    let whole : w ++ behind 32 (after 32 text) ≡ text =
    ap (λ (s : List ℕ). s ++ behind 32 (after 32 text)) is ∙ before-behind 32 text in
    let front : take n text ≡ w =
    ap (λ (s : List ℕ). take n s) (sym whole)
    ∙ (ap (λ (k : ℕ). take k (w ++ behind 32 (after 32 text))) long ∙ take-append_seam w (behind 32 (after 32 text))) in
    record {
      within = omega (arith, length-append w (behind 32 (after 32 text)), ap (λ (s : List ℕ). length s) whole);
      value = WordField w;
      kind = refl;
      valid = and_from (nat_lt 0 (length w)) (list_all (λ c. not (c == 32)) w) (lt-ltb 0 (length w) (omega arith))
          (ap (has_no 32) is ∙ before_no 32 text);
      printed = ap (λ (s : List ℕ). 32 ∷ s) front;
    }

-- ---- tails and texts

-- a text that does not end in a space is a tail
pub tail_begins : (text : List ℕ) → 0 < length text → get_or text (length text - 1) 0 ≢ 32
    → Begins a_tail text (length text)
unfolding canonical_field
tail_begins text some plain = record {
  within = omega arith;
  value = TailField text;
  kind = refl;
  valid = and_from (nat_lt 0 (length text)) (not (get_or text (length text - 1) 0 == 32))
      (lt-ltb 0 (length text) some)
      (ap not (ne_eqb (get_or text (length text - 1) 0) 32 plain));
  printed = ap (λ (s : List ℕ). 32 ∷ s) (take_all (length text) text (omega arith));
}

-- a text that is not empty is printed after its space
text_printed : (text : List ℕ) → 0 < length text → 32 ∷ text ≡ canonical_field (TextField text)
unfolding canonical_field
text_printed [] some = absurd (omega arith)
text_printed (b ∷ s) some = refl

-- it is a text
pub text_begins : (text : List ℕ) → 0 < length text → Begins a_text text (length text)
text_begins text some = record {
  within = omega arith;
  value = TextField text;
  kind = refl;
  valid = tt;
  printed = ap (λ (s : List ℕ). 32 ∷ s) (take_all (length text) text (omega arith)) ∙ text_printed text some;
}

-- ---- flags

-- a byte at the front
front_byte : (text : List ℕ) (c : ℕ) → 0 < length text → get_or text 0 0 ≡ c → take 1 text ≡ c ∷ []
front_byte [] c some is = absurd (omega arith)
front_byte (b ∷ s) c some is = ap (λ (x : ℕ). x ∷ []) is

-- 0 and 1 are flags
pub flag_begins : (text : List ℕ) → 0 < length text → 48 ≤ get_or text 0 0 → get_or text 0 0 ≤ 49 → Begins a_flag text 1
unfolding canonical_field
flag_begins text some low high = elim (cases_eq (get_or text 0 0) 48) [
  | inl is ↦ record {
    within = some;
    value = FlagField false;
    kind = refl;
    valid = tt;
    printed = ap (λ (s : List ℕ). 32 ∷ s) (front_byte text 48 some is);
  }
  | inr other ↦ record {
    within = some;
    value = FlagField true;
    kind = refl;
    valid = tt;
    printed = ap (λ (s : List ℕ). 32 ∷ s) (front_byte text 49 some (omega arith));
  }
]

-- ---- numbers

-- digits that are one or begin with no 0 have the form of a number
digits_form : (text : List ℕ) (n : ℕ) → n ≡ prefix_len is_ascii_digit text → 0 < n
    → (1 < n → get_or text 0 0 ≢ 48) → (is_zero (take n text) || is_positive (take n text)) ≡ true
digits_form text n is some lead =
    let within : n ≤ length text = omega (arith, prefix_len-le-length is_ascii_digit text) in
    let long : length (take n text) ≡ n = length-take-le n text within in
    let first : get_or (take n text) 0 0 ≡ get_or text 0 0 = get_or-take n text 0 0 some in
    elim (cases_eq (get_or text 0 0) 48) [
      | inl zero_first ↦
          let one : n ≡ 1 = alone zero_first in
          let text_is : take n text ≡ 48 ∷ [] =
          ap (λ (k : ℕ). take k text) one ∙ front_byte text 48 (omega arith) zero_first in
          ap (λ (s : List ℕ). is_zero s || is_positive s) text_is
      | inr other ↦
          or_right (is_zero (take n text)) (is_positive (take n text))
          (positive_from (take n text) (record {
            some = omega arith;
            lead = λ e. other (sym first ∙ e);
            digits = front_passes is_ascii_digit text n is;
          }))
    ]
  where
    alone : get_or text 0 0 ≡ 48 → n ≡ 1
    alone zero_first = elim (cases_eq n 1) [
      | inl e ↦ e
      | inr other ↦ absurd (lead (omega arith) zero_first)
    ]

-- the digits at the front are a canonical decimal
pub decimal_begins : (text : List ℕ) (n most : ℕ) → n ≡ prefix_len is_ascii_digit text → 0 < n → n ≤ most → most ≤ 19
    → (1 < n → get_or text 0 0 ≢ 48) → BeginsDecimal text most n
decimal_begins text n most is some few room lead =
    let within : n ≤ length text = omega (arith, prefix_len-le-length is_ascii_digit text) in
    let long : length (take n text) ≡ n = length-take-le n text within in
    let digits = front_passes is_ascii_digit text n is in
    let below : (k : ℕ) → n ≤ k → digits_value 10 (take n text) < 10 ^ k = λ k h.
    digits_value_short (numerals_by_value (λ cs. list_all is_ascii_digit cs ≡ true) (search rules)) (take n text) k
    digits (omega arith) in
    record {
      within = within;
      number = digits_value 10 (take n text);
      small = below most few;
      written = plain_spelled (take n text) (digits_value 10 (take n text)) (digits_form text n is some lead) refl
          (omega (arith, below 19 (omega arith)));
    }

-- one of 19 digits at most is a number
pub number_begins : (text : List ℕ) (n : ℕ) → BeginsDecimal text 19 n → Begins a_number text n
unfolding canonical_field
number_begins text n d = record {
  within = d.within;
  value = NumberField d.number;
  kind = refl;
  valid = omega (arith, d.small);
  printed = ap (λ (s : List ℕ). 32 ∷ s) d.written;
}

-- ---- ratings

-- the digits of a rating
digits_printed : (r whole d e : ℕ) → d < 10 → e < 10 → r ≡ 100 * whole + (10 * d + e)
    → decimal whole ++ (46 ∷ (48 + d) ∷ (48 + e) ∷ []) ≡ printed_rating r
digits_printed r whole d e small-d small-e is =
    let whole_is : whole ≡ r / 100 = omega arith in
    let tenths_are : d ≡ r % 100 / 10 = omega arith in
    let last_are : e ≡ r % 10 = omega arith in
    ap (λ (n : ℕ). decimal n ++ (46 ∷ (48 + d) ∷ (48 + e) ∷ [])) whole_is
    ∙ (ap (λ (n : ℕ). decimal (r / 100) ++ (46 ∷ (48 + n) ∷ (48 + e) ∷ [])) tenths_are
    ∙ ap (λ (n : ℕ). decimal (r / 100) ++ (46 ∷ (48 + r % 100 / 10) ∷ (48 + n) ∷ [])) last_are)

-- three bytes of a text
three_bytes : (text : List ℕ) (n : ℕ) → n + 3 ≤ length text
    → take 3 (drop n text) ≡ get_or text n 0 ∷ get_or text (n + 1) 0 ∷ get_or text (n + 2) 0 ∷ []
three_bytes text n within =
    let first = drop-cons text n 0 (omega arith) in
    let second = drop-cons text (suc n) 0 (omega arith) in
    let third = drop-cons text (suc (suc n)) 0 (omega arith) in
    let two : n + 2 ≡ suc (suc n) = omega arith in
    ap (λ (s : List ℕ). take 3 s)
    (first ∙ (ap (λ (s : List ℕ). get_or text n 0 ∷ s) second
    ∙ ap (λ (s : List ℕ). get_or text n 0 ∷ get_or text (suc n) 0 ∷ s) third))
    ∙ (ap (λ (k : ℕ). get_or text n 0 ∷ get_or text k 0 ∷ get_or text (suc (suc n)) 0 ∷ []) (sym (add-one n))
    ∙ ap (λ (k : ℕ). get_or text n 0 ∷ get_or text (n + 1) 0 ∷ get_or text k 0 ∷ []) (sym two))

-- a canonical decimal of 7 digits at most, a point and two digits are a rating
pub rating_begins : (text : List ℕ) (n : ℕ) → BeginsDecimal text 7 n → n + 3 ≤ length text → get_or text n 0 ≡ 46
    → is_ascii_digit (get_or text (n + 1) 0) ≡ true → is_ascii_digit (get_or text (n + 2) 0) ≡ true
    → Begins a_rating text (n + 3)
unfolding canonical_field
rating_begins text n whole within point tenths last =
    let d = get_or text (n + 1) 0 in
    let e = get_or text (n + 2) 0 in
    let d-range = is_digit_range d tenths in
    let e-range = is_digit_range e last in
    let d-is : d ≡ 48 + (d - 48) = omega (arith, d-range.0) in
    let e-is : e ≡ 48 + (e - 48) = omega (arith, e-range.0) in
    let rating : ℕ = 100 * whole.number + (10 * (d - 48) + (e - 48)) in
    let bytes : take 3 (drop n text) ≡ 46 ∷ (48 + (d - 48)) ∷ (48 + (e - 48)) ∷ [] =
    three_bytes text n within ∙ (ap (λ (c : ℕ). c ∷ d ∷ e ∷ []) point
    ∙ (ap (λ (c : ℕ). 46 ∷ c ∷ e ∷ []) d-is ∙ ap (λ (c : ℕ). 46 ∷ (48 + (d - 48)) ∷ c ∷ []) e-is)) in
    let front : take (n + 3) text ≡ printed_rating rating =
    take-add n 3 text
    ∙ (ap (λ (s : List ℕ). s ++ take 3 (drop n text)) whole.written
    ∙ (ap (λ (s : List ℕ). decimal whole.number ++ s) bytes
    ∙ digits_printed rating whole.number (d - 48) (e - 48) (omega (arith, d-range.1)) (omega (arith, e-range.1)) refl))
    in record {
      within = within;
      value = RatingField rating;
      kind = refl;
      valid = omega (arith, whole.small, d-range.1, e-range.1);
      printed = ap (λ (s : List ℕ). 32 ∷ s) front;
    }
