-- The fields of a message and the text that they are read from, both ways.
use Rattle.std.proofs.Common.{◌≡◌, ◌∙◌, ℕ, ◌+◌, Bool, true, false, not, leb, eqb, List, [], ◌∷◌, ◌++◌, map, decimal, Option, Some, None, Result, Ok, Err, refl, sym, ap, subst, arith, inl, inr}
use Rattle.std.specs.Prelude.{◌&&◌}
use Rattle.std.specs.List.{list_all}
use Rattle.std.proofs.lemmas.Bool.{and_parts, and_from, leb-true, cases_Bool, not_from_false, ne_eqb}
use Rattle.std.proofs.lemmas.List.{append-nil}
use Rattle.fibs_fields.specs.declared.fault.Fault.{Fault}
use Rattle.fibs_fields.specs.Field.{Kind, the_word, a_number_of, a_name, a_word, a_tail, a_flag, a_number, a_rating, a_text, FieldValue, NameField, WordField, TailField, FlagField, NumberField, RatingField, TextField, kind_of, takes_rest, Spells}
use Rattle.fibs_fields.specs.FieldReading.{Left, left, ◌>>=◌, numbered, value_in, text_at, field_at, end_at, fields_at}
use Rattle.fibs_messages.specs.Message.{FieldText, spelled, no_text, FieldsText, no_fields, more_fields}
use Rattle.fibs_fields.specs.Name.{is_name_byte}
use Rattle.fibs_fields.specs.Rating.{FractionText}
use Rattle.fibs_fields.specs.Rating as rating
use Rattle.fibs_fields.specs.Split.{before, after}
use Rattle.fibs_fields.proofs.FieldLemmas.FieldValues.{has_values, bind_ok, ok_is, value_sound, value_complete, all_weaker, decimal_has_no}
use Rattle.fibs_fields.proofs.FieldLemmas.Splits.{behind, opened, HeadIs, before-behind, has_no, cut_off}

-- a fault that gets its field was there before
pub numbered_ok : {A : Type 0} (r : Result A Fault) (i : ℕ) (v : A) → numbered i r ≡ Ok v → r ≡ Ok v
numbered_ok (Ok x) i v e = ap Ok (ok_is x v e)
numbered_ok (Err f) i v e = absurd cc

-- ---- one field that was read

-- the field x.0 is at the front of what is left, and x.1 after it
pub record Takes (k : Kind) (o : Option (List ℕ)) (x : FieldValue × Left) : Type 0 where
  pub text : List ℕ
  pub field : FieldText x.0 text
  pub parts : behind 32 o ≡ text ++ behind 32 x.1.rest
  pub separator : x.1 ≡ left 32 x.1.rest
  pub kind : kind_of x.0 ≡ k

-- a field if nothing is left
absent_text : (k : Kind) (i : ℕ) (x : FieldValue × Left) → field_at k i (left 32 None) ≡ Ok x → Takes k None x
unfolding field_at text_at value_in
absent_text (the_word word) i x e = absurd cc
absent_text (a_number_of values) i x e = absurd cc
absent_text a_name i x e = absurd cc
absent_text a_word i x e = absurd cc
absent_text a_tail i x e = absurd cc
absent_text a_flag i x e = absurd cc
absent_text a_number i x e = absurd cc
absent_text a_rating i x e = absurd cc
absent_text a_text i x e =
    subst (Takes a_text None) (ok_is (TextField [], left 32 None) x e)
    (record { text = []; field = no_text; parts = refl; separator = refl; kind = refl })

-- the text of a field
text_takes : (k : Kind) (i : ℕ) (s text : List ℕ) (o : Option (List ℕ)) (x : FieldValue × Left) → has_values k ≡ true
    → s ≡ text ++ behind 32 o
    → (numbered i (value_in k text) >>= λ v. Ok (v, left 32 o)) ≡ Ok x → Takes k (Some s) x
text_takes k i s text o x m parts e =
    let b = bind_ok (numbered i (value_in k text)) (λ v. Ok (v, left 32 o)) x e in
    let v = value_sound k text b.0 m (numbered_ok (value_in k text) i b.0 b.1) in
    subst (Takes k (Some s)) (ok_is (b.0, left 32 o) x b.2) (record {
      text = 32 ∷ text;
      field = spelled v.1;
      parts = ap (λ (t : List ℕ). 32 ∷ t) parts;
      separator = refl;
      kind = v.0;
    })

-- a field takes its text and leaves the rest
pub field_takes : (k : Kind) (i : ℕ) (o : Option (List ℕ)) (x : FieldValue × Left) → has_values k ≡ true
    → field_at k i (left 32 o) ≡ Ok x → Takes k o x
unfolding field_at text_at
field_takes (the_word word) i (Some s) x m e = absurd cc
field_takes (a_number_of values) i (Some s) x m e = absurd cc
field_takes k i None x m e = absent_text k i x e
field_takes a_name i (Some s) x m e = text_takes a_name i s (before 32 s) (after 32 s) x m (sym (before-behind 32 s)) e
field_takes a_word i (Some s) x m e = text_takes a_word i s (before 32 s) (after 32 s) x m (sym (before-behind 32 s)) e
field_takes a_tail i (Some s) x m e = text_takes a_tail i s s None x m (sym (append-nil s)) e
field_takes a_flag i (Some s) x m e = text_takes a_flag i s (before 32 s) (after 32 s) x m (sym (before-behind 32 s)) e
field_takes a_number i (Some s) x m e =
    text_takes a_number i s (before 32 s) (after 32 s) x m (sym (before-behind 32 s)) e
field_takes a_rating i (Some s) x m e =
    text_takes a_rating i s (before 32 s) (after 32 s) x m (sym (before-behind 32 s)) e
field_takes a_text i (Some s) x m e = text_takes a_text i s s None x m (sym (append-nil s)) e

-- ---- all fields that were read

-- values that the fields of a text spell
pub record AreFound (ks : List Kind) (text : List ℕ) (vs : List FieldValue) : Type 0 where
  pub fields : FieldsText vs text
  pub kinds : map kind_of vs ≡ ks

-- what is read of the fields is spelled there
pub fields_sound : (ks : List Kind) (i : ℕ) (o : Option (List ℕ)) (vs : List FieldValue) → list_all has_values ks ≡ true
    → fields_at ks i (left 32 o) ≡ Ok vs → AreFound ks (behind 32 o) vs
unfolding end_at
fields_sound [] i None vs m e = subst (AreFound [] []) (ok_is [] vs e) (record { fields = no_fields; kinds = refl })
fields_sound [] i (Some s) vs m e = absurd cc
fields_sound (k ∷ ks) i o vs m e =
    let p = and_parts (has_values k) (list_all has_values ks) m in
    let b = bind_ok (field_at k i (left 32 o)) (λ x. fields_at ks (i + 1) x.1 >>= λ vs. Ok (x.0 ∷ vs)) vs e in
    let x = b.0 in
    let t = field_takes k i o x p.0 b.1 in
    let d = bind_ok (fields_at ks (i + 1) x.1) (λ vs. Ok (x.0 ∷ vs)) vs b.2 in
    let more : fields_at ks (i + 1) (left 32 x.1.rest) ≡ Ok d.0 = ap (fields_at ks (i + 1)) (sym t.separator) ∙ d.1 in
    let r = fields_sound ks (i + 1) x.1.rest d.0 p.1 more in
    subst (AreFound (k ∷ ks) (behind 32 o)) (ok_is (x.0 ∷ d.0) vs d.2) (record {
      fields = subst (FieldsText (x.0 ∷ d.0)) (sym t.parts) (more_fields t.field r.fields);
      kinds = rw (t.kind, r.kinds) refl;
    })

-- ---- what is spelled is read

-- a byte of a name is no space
no_space_byte : (b : ℕ) → is_name_byte b ≡ true → not (eqb b 32) ≡ true
no_space_byte b h =
    let p = and_parts (leb 33 b && leb b 126) (not (eqb b 58)) h in
    let q = and_parts (leb 33 b) (leb b 126) p.0 in
    not_from_false (eqb b 32) (ne_eqb b 32 (λ (e : b ≡ 32). absurd (omega (arith, leb-true 33 b q.0))))

-- what holds of two texts holds of both together
all_both : (p : ℕ → Bool) (x y : List ℕ) → list_all p x ≡ true → list_all p y ≡ true → list_all p (x ++ y) ≡ true
all_both p [] y h k = k
all_both p (b ∷ x) y h k =
    let e = and_parts (p b) (list_all p x) h in and_from (p b) (list_all p (x ++ y)) e.0 (all_both p x y e.1 k)

-- a digit is no space
not_a_space : (d : ℕ) → not (eqb (48 + d) 32) ≡ true
not_a_space d = not_from_false (eqb (48 + d) 32) (ne_eqb (48 + d) 32 (λ (e : 48 + d ≡ 32). absurd (omega arith)))

-- a fraction has no space
fraction_no_space : (s : List ℕ) (h : ℕ) → FractionText s h → has_no 32 s ≡ true
fraction_no_space s h rating.no_fraction = refl
fraction_no_space s h (rating.tenths {d} lt) = rw (not_a_space d) refl
fraction_no_space s h (rating.hundredths {d} {e} lt lu) = rw (not_a_space d, not_a_space e) refl

-- a text and a tail come last
abbrev pub TextLast : List Kind → Type 0
TextLast [] = Unit {0}
TextLast (k ∷ ks) = (takes_rest k ≡ true → ks ≡ []) × TextLast ks

-- what the fields' text begins with
text_head : (v : FieldValue) (t ts : List ℕ) → FieldText v t → HeadIs 32 ts → HeadIs 32 (t ++ ts)
text_head v t ts (spelled h) head = refl
text_head v t ts no_text head = head

-- the fields begin with a space or are nothing
pub texts_head : (vs : List FieldValue) (s : List ℕ) → FieldsText vs s → HeadIs 32 s
texts_head vs s no_fields = tt
texts_head vs s (more_fields {v} {vs = us} {text} {texts} here more) =
    text_head v text texts here (texts_head us texts more)

-- no fields are no text
pub no_more : (vs : List FieldValue) (s : List ℕ) → FieldsText vs s → map kind_of vs ≡ [] → s ≡ []
no_more vs s no_fields e = refl
no_more vs s (more_fields here more) e = absurd cc

-- a field that is not the rest of the line has no space
pub word_no_space : (v : FieldValue) (text : List ℕ) → Spells v text → takes_rest (kind_of v) ≡ false
    → has_no 32 text ≡ true
word_no_space (NameField s) text h k =
    let p = and_parts _ (list_all is_name_byte s) h.0 in
    rw h.1 (all_weaker is_name_byte (λ b. not (eqb b 32)) no_space_byte s p.1)
word_no_space (WordField s) text h k = rw h.1 (and_parts _ (list_all (λ b. not (eqb b 32)) s) h.0).1
word_no_space (TailField s) text h k = absurd cc
word_no_space (FlagField true) text h k = rw h.1 refl
word_no_space (FlagField false) text h k = rw h.1 refl
word_no_space (NumberField n) text h k = rw h.1 (decimal_has_no 32 n (omega arith) (omega (arith, h.0)))
word_no_space (RatingField r) text h k =
    let t = h.1 in
    rw t.text_is
    (all_both (λ b. not (eqb b 32)) (decimal t.whole) t.fraction
    (decimal_has_no 32 t.whole (omega arith) (omega (arith, h.0, t.rating_is)))
    (fraction_no_space t.fraction t.hundreds t.fraction_text))
word_no_space (TextField s) text h k = absurd cc

-- a word after its space
word_again : (v : FieldValue) (text rest : List ℕ) (i : ℕ) → Spells v text → HeadIs 32 rest
    → (takes_rest (kind_of v) ≡ true → rest ≡ [])
    → field_at (kind_of v) i (left 32 (Some (text ++ rest))) ≡ Ok (v, left 32 (opened rest))
unfolding field_at text_at
word_again v text rest i h head last = elim (cases_Bool (takes_rest (kind_of v))) [
  | inl e ↦ rw (e, last e, append-nil text, value_complete v text h) refl
  | inr n ↦
      let c = cut_off 32 text rest (word_no_space v text h n) head in
      rw (n, c.0, c.1, value_complete v text h) refl
]

-- one field, spelled at the front
field_again : (v : FieldValue) (t rest : List ℕ) (i : ℕ) → FieldText v t → HeadIs 32 rest
    → (takes_rest (kind_of v) ≡ true → rest ≡ [])
    → field_at (kind_of v) i (left 32 (opened (t ++ rest))) ≡ Ok (v, left 32 (opened rest))
unfolding field_at text_at value_in
field_again v t rest i no_text head last = rw (last refl) refl
field_again v t rest i (spelled {text} h) head last = word_again v text rest i h head last

-- what the fields spell is read of them
pub fields_complete : (vs : List FieldValue) (s : List ℕ) (i : ℕ) → FieldsText vs s → TextLast (map kind_of vs)
    → fields_at (map kind_of vs) i (left 32 (opened s)) ≡ Ok vs
unfolding end_at
fields_complete vs s i no_fields last = refl
fields_complete vs s i (more_fields {v} {vs = us} {text} {texts} here more) last =
    let head = texts_head us texts more in
    let one =
    field_again v text texts i here head (λ (e : takes_rest (kind_of v) ≡ true). no_more us texts more (last.0 e))
    in
    rw (one, fields_complete us texts (i + 1) more last.1) refl
