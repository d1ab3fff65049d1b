-- A message and its line, both ways.
use Rattle.std.proofs.Common.{◌≡◌, ◌∙◌, ℕ, zero, suc, ◌-◌, ◌^◌, ◌<◌, ◌==◌, true, false, not, leb, ltb, eqb, List, [], ◌∷◌, ◌++◌, length, get_or, map, decimal, replicate, Option, Ok, refl, sym, ap, subst, arith, inl, inr, append_assoc}
use Rattle.std.specs.Prelude.{◌&&◌}
use Rattle.std.specs.List.{list_all}
use Rattle.std.proofs.lemmas.Bool.{cases_Bool, cases_eq, eq-eqb, ne_eqb, and_parts, ltb-true, not-true}
use Rattle.std.proofs.lemmas.Fmt.{decimal_nonempty}
use Rattle.std.proofs.lemmas.List.{append-nil}
use Rattle.std.proofs.lemmas.List.Elements.{All-get_or}
use Rattle.std.proofs.lemmas.List.Sums.{AllPass-from_list_all}
use Rattle.fibs_fields.specs.Field.{Kind, FieldValue, NameField, WordField, TailField, FlagField, NumberField, RatingField, TextField, kind_of, may_be_absent, Spells}
use Rattle.fibs_fields.specs.FieldReading.{left, fields_at}
use Rattle.fibs_messages.specs.LineReading.{ReadsAs}
use Rattle.fibs_messages.specs.Message.{number_word, MessageValue, FieldText, spelled, no_text, FieldsText, no_fields, more_fields, MessageText, kinds_of, drops_spaces, kept}
use Rattle.fibs_fields.specs.Spaces.{without_spaces}
use Rattle.fibs_fields.specs.Name.{is_name_byte}
use Rattle.fibs_fields.specs.Split.{before, after}
use Rattle.fibs_messages.proofs.MessageLemmas.FieldTexts.{word_no_space, texts_head, fields_sound, fields_complete, TextLast}
use Rattle.fibs_fields.proofs.FieldLemmas.FieldValues.{decimal_has_no}
use Rattle.fibs_messages.proofs.MessageLemmas.MessageTable.{has_all, values_are, last_is, no_text_where_dropped}
use Rattle.fibs_messages.proofs.MessageLemmas.NumberWords.{number_sound, number_complete}
use Rattle.fibs_fields.proofs.FieldLemmas.Spaces.{EndsPlain, ends_append, without_spaces-end, spaces_after}
use Rattle.fibs_fields.proofs.FieldLemmas.Splits.{behind, opened, HeadIs, before-behind, has_no, cut_off, append_head}

-- ---- the fields' text ends without a space, if none is a text

-- a text that ends in no space, and is not nothing
pub record Ends (text : List ℕ) : Type 0 where
  pub some : 0 < length text
  pub plain : EndsPlain text

-- a text with something before it
front_some : (x y : List ℕ) → 0 < length x → 0 < length (x ++ y)
front_some [] y h = absurd (omega arith)
front_some (b ∷ x) y h = omega arith

-- a field other than a text has a byte
text_some : (v : FieldValue) (text : List ℕ) → Spells v text → may_be_absent (kind_of v) ≡ false → 0 < length text
text_some (NameField s) text h k =
    let p = and_parts (ltb 0 (length s) && leb (length s) 64) (list_all is_name_byte s) h.0 in
    let q = and_parts (ltb 0 (length s)) (leb (length s) 64) p.0 in
    rw h.1 (ltb-true 0 (length s) q.0)
text_some (WordField s) text h k =
    rw h.1 (ltb-true 0 (length s) (and_parts (ltb 0 (length s)) (list_all (λ b. not (eqb b 32)) s) h.0).0)
text_some (TailField s) text h k =
    rw h.1 (ltb-true 0 (length s) (and_parts (ltb 0 (length s)) (not (eqb (get_or s (length s - 1) 0) 32)) h.0).0)
text_some (FlagField b) text h k = rw h.1 (omega arith)
text_some (NumberField n) text h k = rw h.1 (decimal_nonempty n (omega (arith, h.0)))
text_some (RatingField r) text h k =
    let t = h.1 in
    let lt : t.whole < 2 ^ 64 = omega (arith, h.0, t.rating_is) in
    rw t.text_is (front_some (decimal t.whole) t.fraction (decimal_nonempty t.whole lt))
text_some (TextField s) text h k = absurd cc

-- a text without a space ends in none
plain_end : (text : List ℕ) → has_no 32 text ≡ true → EndsPlain text
plain_end text h some =
    not-true (get_or text (length text - 1) 0 == 32)
    (All-get_or (λ c. not (eqb c 32) ≡ true) text (length text - 1) 0 (omega arith)
    (AllPass-from_list_all (λ c. not (eqb c 32)) text h))

-- a field other than a text ends in no space
text_plain : (v : FieldValue) (text : List ℕ) → Spells v text → may_be_absent (kind_of v) ≡ false → EndsPlain text
text_plain (NameField s) text h k = plain_end text (word_no_space (NameField s) text h refl)
text_plain (WordField s) text h k = plain_end text (word_no_space (WordField s) text h refl)
text_plain (TailField s) text h k =
    let p = and_parts (ltb 0 (length s)) (not (eqb (get_or s (length s - 1) 0) 32)) h.0 in
    rw h.1 (λ some. not-true (eqb (get_or s (length s - 1) 0) 32) p.1)
text_plain (FlagField b) text h k = plain_end text (word_no_space (FlagField b) text h refl)
text_plain (NumberField n) text h k = plain_end text (word_no_space (NumberField n) text h refl)
text_plain (RatingField r) text h k = plain_end text (word_no_space (RatingField r) text h refl)
text_plain (TextField s) text h k = absurd cc

-- so does a line that ends in it
field_end : (v : FieldValue) (t x : List ℕ) → FieldText v t → may_be_absent (kind_of v) ≡ false → Ends x → Ends (x ++ t)
field_end v t x (spelled {text} h) k e = record {
  some = front_some x (32 ∷ text) e.some;
  plain =
      ends_append x (32 ∷ text) (omega arith)
      (ends_append (32 ∷ []) text (text_some v text h k) (text_plain v text h k));
}
field_end v t x no_text k e = absurd cc

-- and one that ends in such fields
pub texts_end : (vs : List FieldValue) (s x : List ℕ) → FieldsText vs s → has_all (map kind_of vs) ≡ true → Ends x
    → Ends (x ++ s)
texts_end vs s x no_fields h e = subst Ends (sym (append-nil x)) e
texts_end vs s x (more_fields {v} {vs = us} {text} {texts} here more) h e =
    let p = and_parts (not (may_be_absent (kind_of v))) (has_all (map kind_of us)) h in
    subst Ends (append_assoc x text texts)
    (texts_end us texts (x ++ text) more p.1 (field_end v text x here (not-true (may_be_absent (kind_of v)) p.0) e))

-- a number ends in no space
number_ends : (n : ℕ) → n < 2 ^ 64 → Ends (decimal n)
number_ends n lt =
    record { some = decimal_nonempty n lt; plain = plain_end (decimal n) (decimal_has_no 32 n (omega arith) lt) }

-- ---- lines

-- spaces begin with a space
pub spaces_head : (n : ℕ) → HeadIs 32 (replicate n 32)
spaces_head zero = tt
spaces_head (suc n) = refl

-- what is before the first c, with more after it
pub before-append : (c : ℕ) (w s : List ℕ) → HeadIs c s → before c (w ++ s) ≡ before c w
before-append c [] [] h = refl
before-append c [] (b ∷ s) h = rw (eq-eqb b c h) refl
before-append c (b ∷ w) s h = elim (cases_eq b c) [
  | inl e ↦ rw (eq-eqb b c e) refl
  | inr n ↦ rw (ne_eqb b c n) (ap (λ (t : List ℕ). b ∷ t) (before-append c w s h))
]

-- what is kept of a line
kept_is : (m : MessageValue) (line : List ℕ) → (t : MessageText m line)
    → kept m.number line ≡ decimal m.number ++ t.text
kept_is m line t =
    let n = m.number in
    let small : n < 2 ^ 64 = omega (arith, t.number.1) in
    elim (cases_Bool (drops_spaces n)) [
      | inl e ↦
          let all = subst (λ (ks : List Kind). has_all ks ≡ true) (sym t.kinds) (no_text_where_dropped n e) in
          let ends = texts_end m.fields t.text (decimal n) t.fields all (number_ends n small) in
          rw e
          (ap without_spaces (t.line_is ∙ sym (append_assoc (decimal n) t.text (replicate t.spaces 32)))
          ∙ without_spaces-end (decimal n ++ t.text) t.spaces ends.plain)
      | inr e ↦
          rw e
          (t.line_is ∙ ap (λ (k : ℕ). decimal n ++ (t.text ++ replicate k 32)) (t.no_spaces e)
          ∙ ap (λ (s : List ℕ). decimal n ++ s) (append-nil t.text))
    ]

-- a line that says a message is read so
pub line_reads : (m : MessageValue) (line : List ℕ) → MessageText m line → ReadsAs line m.number (Ok m.fields)
line_reads m line t =
    let n = m.number in
    let small : n < 2 ^ 64 = omega (arith, t.number.1) in
    let head = texts_head m.fields t.text t.fields in
    let plain = decimal_has_no 32 n (omega arith) small in
    let front : before 32 line ≡ decimal n = ap (before 32) t.line_is
    ∙ (cut_off 32 (decimal n) (t.text ++ replicate t.spaces 32) plain
    (append_head 32 t.text (replicate t.spaces 32) head (spaces_head t.spaces))).0 in
    let back : after 32 (kept n line) ≡ opened t.text =
    ap (after 32) (kept_is m line t) ∙ (cut_off 32 (decimal n) t.text plain head).1 in
    let last : TextLast (map kind_of m.fields) = subst TextLast (sym t.kinds) (last_is n) in
    record {
      number = ap number_word front ∙ number_complete n t.number;
      fields = ap (λ (o : Option (List ℕ)). fields_at (kinds_of n) 1 (left 32 o)) back
          ∙ (ap (λ (ks : List Kind). fields_at ks 1 (left 32 (opened t.text))) (sym t.kinds)
          ∙ fields_complete m.fields t.text 1 t.fields last);
    }

-- what is kept, and the spaces after it
pub record Kept (n : ℕ) (line : List ℕ) : Type 0 where
  pub spaces : ℕ
  pub none : drops_spaces n ≡ false → spaces ≡ 0
  pub line_is : line ≡ kept n line ++ replicate spaces 32

-- what is kept of a line
pub kept_part : (n : ℕ) (line : List ℕ) → Kept n line
kept_part n line = elim (cases_Bool (drops_spaces n)) [
  | inl e ↦ let d = spaces_after line in record { spaces = d.0; none = λ f. absurd cc; line_is = rw e d.1 }
  | inr e ↦ record { spaces = 0; none = λ f. refl; line_is = rw e (sym (append-nil line)) }
]

-- a line that is read as a message says it
pub reads_line : (n : ℕ) (vs : List FieldValue) (line : List ℕ) → ReadsAs line n (Ok vs)
    → MessageText (record { number = n; fields = vs }) line
reads_line n vs line r =
    let word = number_sound (before 32 line) n r.number in
    let whole = kept n line in
    let found = fields_sound (kinds_of n) 1 (after 32 whole) vs (values_are n) r.fields in
    let k = kept_part n line in
    let front : before 32 whole ≡ decimal n =
    sym (before-append 32 whole (replicate k.spaces 32) (spaces_head k.spaces))
    ∙ (ap (before 32) (sym k.line_is) ∙ word.text_is) in
    let parts : whole ≡ decimal n ++ behind 32 (after 32 whole) =
    sym (before-behind 32 whole) ∙ ap (λ (w : List ℕ). w ++ behind 32 (after 32 whole)) front in
    record {
      number = word.number;
      kinds = found.kinds;
      text = behind 32 (after 32 whole);
      fields = found.fields;
      spaces = k.spaces;
      no_spaces = k.none;
      line_is =
          k.line_is
          ∙ (ap (λ (w : List ℕ). w ++ replicate k.spaces 32) parts
          ∙ append_assoc (decimal n) (behind 32 (after 32 whole)) (replicate k.spaces 32));
    }
