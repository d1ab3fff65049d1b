-- A value and the texts that spell it, both ways.
use Rattle.std.proofs.Common.{◌≡◌, ◌∙◌, ℕ, zero, suc, ◌+◌, ◌-◌, ◌*◌, ◌^◌, ◌<◌, Bool, true, false, not, leb, eqb, List, [], ◌∷◌, ◌++◌, decimal, Option, Some, None, Result, Ok, Err, refl, sym, ap, subst, arith, inl, inr, lit<}
use Rattle.std.specs.Prelude.{◌||◌, ℤ, pos, negsuc, nat_lt}
use Rattle.std.specs.Char.{is_ascii_digit}
use Rattle.std.specs.List.{list_all}
use Rattle.std.specs.Str.Parse.{digits_value}
use Rattle.std.specs.Fmt.{signed_decimal}
use Rattle.std.proofs.lemmas.Bool.{cases_Bool, ne_eqb, and_parts, and_from, leb-true, le-leb, ltb-true, lt-ltb, not_from_false, or_right}
use Rattle.std.proofs.lemmas.Bool.Decides.{nat_tests}
use Rattle.std.proofs.lemmas.Int.{ints}
use Rattle.std.proofs.lemmas.Fmt.{digits_decimal, decimal_digit, digits_value-decimal}
use Rattle.fibs_fields.specs.Decimal.{numbers_of_32_bits, is_positive, is_zero, allows, number_in}
use Rattle.fibs_fields.specs.DecimalReading.{IsNarrow}
use Rattle.fibs_fields.specs.Field.{Kind, the_word, a_number_of, a_name, a_word, a_tail, a_flag, a_number, a_rating, a_text, FieldValue, NameField, WordField, TailField, FlagField, NumberField, RatingField, TextField, kind_of, Spells, flag_text, flag_values, number_values}
use Rattle.fibs_fields.specs.FieldReading.{◌>>=◌, good, natural, value_in}
use Rattle.fibs_fields.specs.Name.{is_name}
use Rattle.fibs_fields.specs.Rating.{RatingText, FractionText, no_fraction, tenths, is_fraction, hundredths_of, is_rating, rating_value, rating_in}
use Rattle.fibs_fields.specs.Rating as rating
use Rattle.fibs_fields.specs.Split.{before, after}
use Rattle.fibs_fields.specs.Word.{is_word, is_tail}
use Rattle.fibs_fields.proofs.NumberLemmas.Naturals.{natural_found, number_in-natural, plain_spelled}
use Rattle.fibs_fields.proofs.NumberLemmas.Spelled.{own, number_in_spelled, written_positive, positive_from}
use Rattle.fibs_fields.proofs.FieldLemmas.Splits.{behind, opened, HeadIs, before-behind, has_no, cut_off}

-- ---- steps that did not fail

-- two steps that gave a value each did
pub bind_ok : {A B E : Type 0} (r : Result A E) (f : A → Result B E) (y : B) → (r >>= f) ≡ Ok y
    → (x : A) × (r ≡ Ok x) × (f x ≡ Ok y)
bind_ok (Ok x) f y e = (x, refl, e)
bind_ok (Err d) f y e = absurd cc

-- one answer has one value
pub ok_is : {A E : Type 0} (x y : A) → ◌≡◌ {A = Result A E} (Ok x) (Ok y) → x ≡ y
ok_is x y e = cc

-- a test that was passed
good_is : {A : Type 0} (test : Bool) (x v : A) → good test x ≡ Ok v → (test ≡ true) × (x ≡ v)
good_is true x v e = (refl, ok_is x v e)
good_is false x v e = absurd cc

-- a value of a kind that a text spells
abbrev pub IsFound : Kind → List ℕ → FieldValue → Type 0
IsFound k text v = (kind_of v ≡ k) × Spells v text

-- ---- flags

-- a flag fits 32 bits
narrow_flags : IsNarrow flag_values
narrow_flags = (search (ints, arith), search (ints, arith))

-- a number that a flag may be is its text
flag_number : (z : ℤ) (text : List ℕ) → text ≡ signed_decimal z → allows flag_values z ≡ true
    → IsFound a_flag text (FlagField (eqb (natural z) 1))
flag_number (pos zero) text e h = (refl, (tt, e ∙ decimal_digit 0 (lit< tt)))
flag_number (pos (suc zero)) text e h = (refl, (tt, e ∙ decimal_digit 1 (lit< tt)))
flag_number (pos (suc (suc n))) text e h = absurd (grind (arith, ints, nat_tests))
flag_number (negsuc n) text e h = absurd (grind (arith, ints, nat_tests))

-- a flag that is read is spelled so
flag_sound : (text : List ℕ) (v : FieldValue)
    → (number_in flag_values text >>= λ z. Ok (FlagField (eqb (natural z) 1))) ≡ Ok v → IsFound a_flag text v
flag_sound text v e =
    let b = bind_ok (number_in flag_values text) (λ z. Ok (FlagField (eqb (natural z) 1))) v e in
    let spelled = number_in_spelled flag_values text b.0 narrow_flags b.1 in
    subst (IsFound a_flag text) (ok_is (FlagField (eqb (natural b.0) 1)) v b.2)
    (flag_number b.0 text spelled.0 spelled.1)

-- a flag that is spelled is read
flag_complete : (b : Bool)
    → (number_in flag_values (flag_text b) >>= λ z. Ok (FlagField (eqb (natural z) 1))) ≡ Ok (FlagField b)
flag_complete true = refl
flag_complete false = refl

-- ---- numbers

-- a number that is read is spelled so
number_sound : (text : List ℕ) (v : FieldValue)
    → (number_in number_values text >>= λ z. Ok (NumberField (natural z))) ≡ Ok v → IsFound a_number text v
number_sound text v e =
    let b = bind_ok (number_in number_values text) (λ z. Ok (NumberField (natural z))) v e in
    let found = natural_found text b.0 b.1 in
    let same : NumberField found.number ≡ v =
    ap (λ (z : ℤ). NumberField (natural z)) (sym found.is) ∙ ok_is (NumberField (natural b.0)) v b.2 in
    subst (IsFound a_number text) same (refl, (found.small, found.text_is))

-- ---- ratings

-- a digit and its number
digit_of : (d : ℕ) → is_ascii_digit d ≡ true → (d - 48 < 10) × (d ≡ 48 + (d - 48))
digit_of d h =
    let p = and_parts (leb 48 d) (leb d 57) h in
    let low = leb-true 48 d p.0 in
    let high = leb-true d 57 p.1 in
    (omega arith, omega arith)

-- a small number and its digit
digit_test : (d : ℕ) → d < 10 → is_ascii_digit (48 + d) ≡ true
digit_test d lt =
    and_from (leb 48 (48 + d)) (leb (48 + d) 57) (le-leb 48 (48 + d) (omega arith)) (le-leb (48 + d) 57 (omega arith))

-- a fraction that is read is spelled so
fraction_sound : (o : Option (List ℕ)) → is_fraction o ≡ true → FractionText (behind 46 o) (hundredths_of o)
fraction_sound None e = no_fraction
fraction_sound (Some []) e = absurd cc
fraction_sound (Some (d ∷ [])) e =
    let g = digit_of d e in
    subst (λ (x : ℕ). FractionText (46 ∷ x ∷ []) (10 * (d - 48))) (sym g.1) (tenths g.0)
fraction_sound (Some (d ∷ f ∷ [])) e =
    let q = and_parts (is_ascii_digit d) (is_ascii_digit f) e in
    let g = digit_of d q.0 in
    let i = digit_of f q.1 in
    subst (λ (x : ℕ). FractionText (46 ∷ x ∷ f ∷ []) (10 * (d - 48) + (f - 48))) (sym g.1)
    (subst (λ (y : ℕ). FractionText (46 ∷ (48 + (d - 48)) ∷ y ∷ []) (10 * (d - 48) + (f - 48))) (sym i.1)
    (rating.hundredths g.0 i.0))
fraction_sound (Some (d ∷ f ∷ g ∷ s)) e = absurd cc

-- a rating's form and its range
rating_parts : (text : List ℕ) (r : ℕ) → rating_in text ≡ Ok r
    → (is_rating text ≡ true) × (rating_value text ≡ r) × (r < numbers_of_32_bits)
rating_parts text r e = elim (cases_Bool (is_rating text)) [
  | inl form ↦ elim (cases_Bool (nat_lt (rating_value text) numbers_of_32_bits)) [
    | inl small ↦
        let same : rating_value text ≡ r = ok_is (rating_value text) r (rw (form, small) at e) in
        (form, same, omega (arith, ltb-true (rating_value text) numbers_of_32_bits small))
    | inr large ↦ let none = rw (form, large) at e in absurd cc
  ]
  | inr other ↦ let none = rw other at e in absurd cc
]

-- a text of the form of a rating spells it
rating_spelled : (text : List ℕ) (r : ℕ) → is_rating text ≡ true → rating_value text ≡ r → r < numbers_of_32_bits
    → RatingText r text
rating_spelled text r form value small =
    let p = and_parts (is_zero (before 46 text) || is_positive (before 46 text)) (is_fraction (after 46 text)) form in
    let whole = plain_spelled (before 46 text) (digits_value 10 (before 46 text)) p.0 refl (omega arith) in
    record {
      whole = digits_value 10 (before 46 text);
      hundreds = hundredths_of (after 46 text);
      fraction = behind 46 (after 46 text);
      fraction_text = fraction_sound (after 46 text) p.1;
      text_is = sym (before-behind 46 text) ∙ ap (λ (x : List ℕ). x ++ behind 46 (after 46 text)) whole;
      rating_is = sym value;
    }

-- a rating that is read is spelled so
rating_sound : (text : List ℕ) (v : FieldValue) → (rating_in text >>= λ r. Ok (RatingField r)) ≡ Ok v
    → IsFound a_rating text v
rating_sound text v e =
    let b = bind_ok (rating_in text) (λ r. Ok (RatingField r)) v e in
    let p = rating_parts text b.0 b.1 in
    subst (IsFound a_rating text) (ok_is (RatingField b.0) v b.2) (refl, (p.2, rating_spelled text b.0 p.0 p.1 p.2))

-- ---- what is found is spelled

-- the kinds of messages, which have values
abbrev pub has_values : Kind → Bool
has_values (the_word word) = false
has_values (a_number_of values) = false
has_values k = true

-- a value that is read is of its kind and spelled so
pub value_sound : (k : Kind) (text : List ℕ) (v : FieldValue) → has_values k ≡ true → value_in k text ≡ Ok v
    → IsFound k text v
unfolding value_in
value_sound (the_word word) text v m e = absurd cc
value_sound (a_number_of values) text v m e = absurd cc
value_sound a_name text v m e =
    let p = good_is (is_name text) (NameField text) v e in subst (IsFound a_name text) p.1 (refl, (p.0, refl))
value_sound a_word text v m e =
    let p = good_is (is_word text) (WordField text) v e in subst (IsFound a_word text) p.1 (refl, (p.0, refl))
value_sound a_tail text v m e =
    let p = good_is (is_tail text) (TailField text) v e in subst (IsFound a_tail text) p.1 (refl, (p.0, refl))
value_sound a_flag text v m e = flag_sound text v e
value_sound a_number text v m e = number_sound text v e
value_sound a_rating text v m e = rating_sound text v e
value_sound a_text text v m e = subst (IsFound a_text text) (ok_is (TextField text) v e) (refl, (tt, refl))

-- ---- what is spelled is found

-- what holds of each byte, and something weaker
pub all_weaker : (p q : ℕ → Bool) → ((b : ℕ) → p b ≡ true → q b ≡ true) → (s : List ℕ) → list_all p s ≡ true
    → list_all q s ≡ true
all_weaker p q h [] a = refl
all_weaker p q h (b ∷ s) a =
    let e = and_parts (p b) (list_all p s) a in
    and_from (q b) (list_all q s) (h b e.0) (all_weaker p q h s e.1)

-- a digit is no byte below it
digit_is_no : (c : ℕ) → c < 48 → (b : ℕ) → is_ascii_digit b ≡ true → not (eqb b c) ≡ true
digit_is_no c low b h =
    let p = and_parts (leb 48 b) (leb b 57) h in
    not_from_false (eqb b c) (ne_eqb b c (λ (e : b ≡ c). absurd (omega (arith, leb-true 48 b p.0))))

-- nor has a decimal one
pub decimal_has_no : (c n : ℕ) → c < 48 → n < 2 ^ 64 → has_no c (decimal n) ≡ true
decimal_has_no c n low lt =
    all_weaker is_ascii_digit (λ b. not (eqb b c)) (digit_is_no c low) (decimal n) (digits_decimal own n lt)

-- a fraction that is spelled is read
fraction_complete : (s : List ℕ) (h : ℕ) → FractionText s h
    → HeadIs 46 s × (is_fraction (opened s) ≡ true) × (hundredths_of (opened s) ≡ h)
fraction_complete s h no_fraction = (tt, refl, refl)
fraction_complete s h (tenths {d} lt) = (refl, digit_test d lt, omega arith)
fraction_complete s h (rating.hundredths {d} {e} lt lu) = (
  refl,
  and_from (is_ascii_digit (48 + d)) (is_ascii_digit (48 + e)) (digit_test d lt) (digit_test e lu),
  omega arith,
)

-- what is written of a number has the form of one
pub decimal_form : (n : ℕ) → n < 2 ^ 64 → (is_zero (decimal n) || is_positive (decimal n)) ≡ true
decimal_form zero limit = ap (λ (s : List ℕ). is_zero s || is_positive s) (decimal_digit 0 (lit< tt))
decimal_form (suc n) limit =
    or_right (is_zero (decimal (suc n))) (is_positive (decimal (suc n)))
    (positive_from (decimal (suc n)) (written_positive (suc n) (omega arith) limit))

-- a rating that is spelled is read
rating_complete : (r : ℕ) (text : List ℕ) → r < numbers_of_32_bits → RatingText r text → rating_in text ≡ Ok r
rating_complete r text lt t =
    let f = fraction_complete t.fraction t.hundreds t.fraction_text in
    let small : t.whole < 2 ^ 64 = omega (arith, t.rating_is) in
    let c = cut_off 46 (decimal t.whole) t.fraction (decimal_has_no 46 t.whole (omega arith) small) f.0 in
    let front : before 46 text ≡ decimal t.whole = ap (before 46) t.text_is ∙ c.0 in
    let back : after 46 text ≡ opened t.fraction = ap (after 46) t.text_is ∙ c.1 in
    let same : rating_value text ≡ r =
    rw (front, back, digits_value-decimal own t.whole small, f.2) (sym t.rating_is) in
    let form : is_rating text ≡ true = rw (front, back, decimal_form t.whole small) f.1 in
    rw (form, same, lt-ltb r numbers_of_32_bits lt) refl

-- a value that is spelled is read
pub value_complete : (v : FieldValue) (text : List ℕ) → Spells v text → value_in (kind_of v) text ≡ Ok v
unfolding value_in
value_complete (NameField s) text h = rw (h.1, h.0) refl
value_complete (WordField s) text h = rw (h.1, h.0) refl
value_complete (TailField s) text h = rw (h.1, h.0) refl
value_complete (FlagField b) text h = rw h.1 (flag_complete b)
value_complete (NumberField n) text h = rw (h.1, number_in-natural n (omega (arith, h.0))) refl
value_complete (RatingField r) text h = rw (rating_complete r text h.0 h.1) refl
value_complete (TextField s) text h = rw h.1 refl
