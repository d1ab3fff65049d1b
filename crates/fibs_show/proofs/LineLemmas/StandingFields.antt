-- If each field of a line is as it is printed, the line is the canonical line of its message.
use Rattle.std.proofs.Common.{◌≡◌, ◌∙◌, ℕ, ◌+◌, List, [], ◌∷◌, ◌++◌, decimal, length, take, replicate, Option, Some, None, refl, sym, ap, ap₂, arith, append_assoc}
use Rattle.std.specs.List.{flat_map, AllByRecursion}
use Rattle.std.proofs.lemmas.List.{append-nil, map-append, take_all}
use Rattle.fibs_fields.specs.Field.{Kind, FieldValue, kind_of, IsValue}
use Rattle.fibs_fields.specs.Split.{before, after}
use Rattle.fibs_fields.proofs.FieldLemmas.Splits.{behind, before-behind}
use Rattle.fibs_messages.specs.Message.{MessageText, MessageValue, canonical, canonical_field, kinds_of, kept, number_word}
use Rattle.fibs_show.specs.Standing.{after_space, AllStand, Begins, Stands}
use Rattle.fibs_messages.proofs.MessageLemmas.CanonicalLines.{fields_text}
use Rattle.fibs_messages.proofs.MessageLemmas.MessageLines.{before-append, spaces_head, kept_part}
use Rattle.fibs_messages.proofs.MessageLemmas.NumberWords.{number_sound}

-- a text that ends with a field
pub ends_after : (text : List ℕ) (n : ℕ) → n ≡ length text → text ≡ take n text ++ after_space None
ends_after text n is = sym (append-nil (take n text) ∙ take_all n text (omega arith))

-- a field that begins a text, and what is after it
pub field_stands : (k : Kind) (text : List ℕ) (n : ℕ) (rest : Option (List ℕ)) → Begins k text n
    → text ≡ take n text ++ after_space rest → Stands k (Some text) rest
field_stands k text n rest begins parts = record {
  value = begins.value;
  kind = begins.kind;
  valid = begins.valid;
  text = ap (λ (s : List ℕ). 32 ∷ s) parts ∙ ap (λ (s : List ℕ). s ++ after_space rest) begins.printed;
}

-- before the first field nothing is printed
pub none_stand : (o : Option (List ℕ)) → AllStand [] o o
none_stand o = record { values = []; kinds = refl; valid = tt; text = refl }

-- values that hold, and one more
values_more : (vs : List FieldValue) (v : FieldValue) → AllByRecursion IsValue vs → IsValue v
    → AllByRecursion IsValue (vs ++ v ∷ [])
values_more [] v h this = (this, tt)
values_more (x ∷ xs) v h this = (h.0, values_more xs v h.1 this)

-- what is printed of fields, and of one more
printed_more : (vs : List FieldValue) (v : FieldValue) (rest : List ℕ)
    → flat_map canonical_field vs ++ (canonical_field v ++ rest) ≡ flat_map canonical_field (vs ++ v ∷ []) ++ rest
printed_more [] v rest = ap (λ (s : List ℕ). s ++ rest) (sym (append-nil (canonical_field v)))
printed_more (x ∷ xs) v rest =
    append_assoc (canonical_field x) (flat_map canonical_field xs) (canonical_field v ++ rest)
    ∙ (ap (λ (s : List ℕ). canonical_field x ++ s) (printed_more xs v rest)
    ∙ sym (append_assoc (canonical_field x) (flat_map canonical_field (xs ++ v ∷ [])) rest))

-- one more field is as it is printed
pub one_more_stands : (ks : List Kind) (k : Kind) (o p q : Option (List ℕ)) → AllStand ks o p → Stands k p q
    → AllStand (ks ++ k ∷ []) o q
one_more_stands ks k o p q all this = record {
  values = all.values ++ this.value ∷ [];
  kinds = map-append kind_of all.values (this.value ∷ [])
      ∙ (ap (λ (xs : List Kind). xs ++ kind_of this.value ∷ []) all.kinds
      ∙ ap (λ (x : Kind). ks ++ x ∷ []) this.kind);
  valid = values_more all.values this.value all.valid this.valid;
  text = all.text ∙ (ap (λ (s : List ℕ). flat_map canonical_field all.values ++ s) this.text
      ∙ printed_more all.values this.value (after_space q));
}

-- a field is as it is printed, and so are those after it
pub stands_before : {k : Kind} {ks : List Kind} {o p q : Option (List ℕ)} → Stands k o p → AllStand ks p q
    → AllStand (k ∷ ks) o q
stands_before {q = q} this all = record {
  values = this.value ∷ all.values;
  kinds = ap₂ (λ (x : Kind) (xs : List Kind). x ∷ xs) this.kind all.kinds;
  valid = (this.valid, all.valid);
  text = this.text ∙ (ap (λ (s : List ℕ). canonical_field this.value ++ s) all.text
      ∙ sym (append_assoc (canonical_field this.value) (flat_map canonical_field all.values) (after_space q)));
}

-- what is left with its space is what is put after
behind_space : (o : Option (List ℕ)) → behind 32 o ≡ after_space o
behind_space None = refl
behind_space (Some s) = refl

-- the message of a line whose fields are all so
pub standing_line : (line : List ℕ) (n : ℕ) → number_word (before 32 line) ≡ Some n
    → AllStand (kinds_of n) (after 32 (kept n line)) None
    → (m : MessageValue) × MessageText m line × (kept n line ≡ canonical m)
standing_line line n number all =
    let word = number_sound (before 32 line) n number in
    let whole = kept n line in
    let k = kept_part n line in
    let front : before 32 whole ≡ decimal n =
    sym (before-append 32 whole (replicate k.spaces 32) (spaces_head k.spaces))
    ∙ (ap (before 32) (sym k.line_is) ∙ word.text_is) in
    let printed : List ℕ = flat_map canonical_field all.values in
    let same : whole ≡ decimal n ++ printed =
    sym (before-behind 32 whole) ∙ (ap (λ (w : List ℕ). w ++ behind 32 (after 32 whole)) front
    ∙ ap (λ (w : List ℕ). decimal n ++ w)
    (behind_space (after 32 whole) ∙ (all.text ∙ append-nil printed))) in (
      record { number = n; fields = all.values },
      record {
        number = word.number;
        kinds = all.kinds;
        text = printed;
        fields = fields_text all.values all.valid;
        spaces = k.spaces;
        no_spaces = k.none;
        line_is = k.line_is
            ∙ (ap (λ (w : List ℕ). w ++ replicate k.spaces 32) same
            ∙ append_assoc (decimal n) printed (replicate k.spaces 32));
      },
      same,
    )
