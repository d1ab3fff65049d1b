-- A numbered line says one message or has one first wrong field.
use Rattle.std.specs.List.{starts_with}
use Rattle.std.specs.Prelude.{codes}
use Rattle.std.proofs.lemmas.Bool.{and_parts, eqb-true}
use Rattle.std.proofs.Common.{eqb, ◌≡◌, ◌∙◌, ℕ, ◌+◌, ◌<◌, ◌⊎◌, inl, inr, List, [], ◌∷◌, Some, None, Result, Ok, Err, refl, sym, ap, subst, arith}
use Rattle.fibs_fields.specs.declared.fault.FieldFault.{FieldFault}
use Rattle.fibs_fields.specs.declared.fault.Fault.{Fault}
use Rattle.fibs_fields.specs.Field.{Kind, FieldValue, fault_at, texts_for}
use Rattle.fibs_fields.specs.FieldReading.{fields_at, left}
use Rattle.fibs_messages.specs.Line.{IsBoardLine}
use Rattle.fibs_messages.specs.LineReading.{ReadsAs}
use Rattle.fibs_messages.specs.Message.{number_word, MessageValue, MessageText, HasNumber, IsNumbered, WrongMessage, kinds_of, kept}
use Rattle.fibs_fields.specs.Split.{before, after}
use Rattle.fibs_fields.proofs.FieldLemmas.FieldFaults.{Tells, tells, one_first}
use Rattle.fibs_fields.proofs.FieldLemmas.Options.{option_same, some_none}
use Rattle.fibs_messages.proofs.MessageLemmas.MessageLines.{line_reads, reads_line}
use Rattle.fibs_messages.proofs.MessageLemmas.NumberWords.{number_sound, number_complete}

-- what reading the fields answers
abbrev Fields : Type 0
Fields = Result (List FieldValue) FieldFault

-- the values
abbrev found : List FieldValue → Fields
found vs = Ok vs

-- the first fault
abbrev failed : FieldFault → Fields
failed e = Err e

-- one answer has one list of values
found_same : (us vs : List FieldValue) → found us ≡ found vs → us ≡ vs
found_same us vs e = cc

-- or one fault
failed_same : (d e : FieldFault) → failed d ≡ failed e → d ≡ e
failed_same d e h = cc

-- and not both
found_not_failed : (vs : List FieldValue) (e : FieldFault) → found vs ≡ failed e → ⊥
found_not_failed vs e h = cc

-- one number, and one answer
pub one_number : (line : List ℕ) (m n : ℕ) (r s : Fields) → ReadsAs line m r → ReadsAs line n s → (m ≡ n) × (r ≡ s)
one_number line m n r s a b =
    let same : m ≡ n = option_same m n (sym a.number ∙ b.number) in
    (same, sym a.fields ∙ (ap (λ (k : ℕ). fields_at (kinds_of k) 1 (left 32 (after 32 (kept k line)))) same ∙ b.fields))

-- ---- wrong fields

-- a fault of a field
abbrev faults : ℕ → Fault → FieldFault
faults k f = record { field = k; fault = f }

-- by its parts
faults_same : (j k : ℕ) (f g : Fault) → j ≡ k → f ≡ g → faults j f ≡ faults k g
faults_same j k f g p q i = record { field = p i; fault = q i }

-- what is read holds of the texts
told : (line : List ℕ) (n : ℕ) (r : Fields) → fields_at (kinds_of n) 1 (left 32 (after 32 (kept n line))) ≡ r
    → Tells (kinds_of n) 1 (texts_for (kinds_of n) 32 (after 32 (kept n line))) r
told line n r e =
    subst (Tells (kinds_of n) 1 (texts_for (kinds_of n) 32 (after 32 (kept n line)))) e
    (tells (kinds_of n) 1 32 (after 32 (kept n line)))

-- the word before the first space is the number
pub has_number : (line : List ℕ) (n : ℕ) → number_word (before 32 line) ≡ Some n → HasNumber line n
has_number line n e = let w = number_sound (before 32 line) n e in (w.number, w.text_is)

-- the number is that word
pub number_of : (line : List ℕ) (n : ℕ) → HasNumber line n → number_word (before 32 line) ≡ Some n
number_of line n h = ap number_word h.1 ∙ number_complete n h.0

-- a fault that is read is the first
pub reads_wrong : (line : List ℕ) (n k : ℕ) (f : Fault) → ReadsAs line n (failed (faults k f)) → WrongMessage line n k f
reads_wrong line n k f r =
    let t = told line n (failed (faults k f)) r.fields in
    let place : k ≡ 1 + t.0 = t.1 in
    (has_number line n r.number, (t.0, omega arith, t.2.here, t.2.before))

-- a first fault is what reading answers
told_wrong : (ks : List Kind) (texts : List (List ℕ)) (r : Fields) (i : ℕ) (k : ℕ) (f : Fault) → k ≡ i + 1
    → fault_at ks texts i ≡ Some f → ((j : ℕ) → j < i → fault_at ks texts j ≡ None)
    → Tells ks 1 texts r → r ≡ failed (faults k f)
told_wrong ks texts (Ok vs) i k f place here first t = absurd (some_none f (sym here ∙ t i))
told_wrong ks texts (Err d) i k f place here first t =
    let same = one_first ks texts t.0 i d.fault f t.2 (record { here = here; before = first }) in
    let p : t.0 ≡ i = same.place in
    let q : d.field ≡ 1 + t.0 = t.1 in
    ap failed (faults_same d.field k d.fault f (omega arith) same.fault)

-- a first fault is read
pub wrong_reads : (line : List ℕ) (n k : ℕ) (f : Fault) → WrongMessage line n k f → ReadsAs line n (failed (faults k f))
wrong_reads line n k f w = record {
  number = number_of line n w.0;
  fields = told_wrong (kinds_of n) (texts_for (kinds_of n) 32 (after 32 (kept n line)))
      (fields_at (kinds_of n) 1 (left 32 (after 32 (kept n line)))) w.1.0 k f w.1.1 w.1.2 w.1.3
      (told line n (fields_at (kinds_of n) 1 (left 32 (after 32 (kept n line)))) refl);
}

-- ---- one or the other, and only one

-- a message, by its parts
message_same : (m n : ℕ) (us vs : List FieldValue) → m ≡ n → us ≡ vs
    → ◌≡◌ {A = MessageValue} (record { number = m; fields = us }) (record { number = n; fields = vs })
message_same m n us vs p q i = record { number = p i; fields = q i }

-- a line says one message
pub one_message : (line : List ℕ) (a b : MessageValue) → MessageText a line → MessageText b line → a ≡ b
one_message line a b g h =
    let same =
    one_number line a.number b.number (found a.fields) (found b.fields) (line_reads a line g)
    (line_reads b line h) in
    message_same a.number b.number a.fields b.fields same.0 (found_same a.fields b.fields same.1)

-- a line that says a message has no wrong field
pub message_not_wrong : (line : List ℕ) (m : MessageValue) (n k : ℕ) (f : Fault) → MessageText m line
    → WrongMessage line n k f → ⊥
message_not_wrong line m n k f says wrong =
    let same =
    one_number line m.number n (found m.fields) (failed (faults k f)) (line_reads m line says)
    (wrong_reads line n k f wrong) in
    found_not_failed m.fields (faults k f) same.1

-- one number, one field and one fault
pub record SameWrong (m n j k : ℕ) (f g : Fault) : Type 0 where
  pub number : m ≡ n
  pub field : j ≡ k
  pub fault : f ≡ g

-- a line has one first wrong field
pub one_wrong : (line : List ℕ) (m n j k : ℕ) (f g : Fault) → WrongMessage line m j f → WrongMessage line n k g
    → SameWrong m n j k f g
one_wrong line m n j k f g a b =
    let same =
    one_number line m n (failed (faults j f)) (failed (faults k g)) (wrong_reads line m j f a)
    (wrong_reads line n k g b) in
    let fault = failed_same (faults j f) (faults k g) same.1 in
    record {
      number = same.0;
      field = ap (λ (e : FieldFault). e.field) fault;
      fault =
          ap (λ (e : FieldFault). e.fault) fault;
    }

-- a numbered line says a message or has a first wrong field
either_read : (line : List ℕ) (n : ℕ) (r : Fields) → ReadsAs line n r
    → ((m : MessageValue) × MessageText m line) ⊎ ((k : ℕ) × (f : Fault) × WrongMessage line n k f)
either_read line n (Ok vs) h = inl (record { number = n; fields = vs }, reads_line n vs line h)
either_read line n (Err e) h = inr (e.field, e.fault, reads_wrong line n e.field e.fault h)

-- each numbered line says a message or has a first wrong field
pub message_or_wrong : (line : List ℕ) (n : ℕ) → HasNumber line n
    → ((m : MessageValue) × MessageText m line) ⊎ ((k : ℕ) × (f : Fault) × WrongMessage line n k f)
message_or_wrong line n h =
    either_read line n (fields_at (kinds_of n) 1 (left 32 (after 32 (kept n line))))
    (record { number = number_of line n h; fields = refl })

-- ---- lines of messages are numbered, and no board lines

-- a line that says a message is numbered
pub message_numbered : (line : List ℕ) (m : MessageValue) → MessageText m line → IsNumbered line
message_numbered line m says = let r = line_reads m line says in (m.number, has_number line m.number r.number)

-- no number begins with `b`
none_with_b : (s : List ℕ) (n : ℕ) → number_word (98 ∷ s) ≡ Some n → ⊥
none_with_b [] n e = cc
none_with_b (c ∷ []) n e = cc
none_with_b (c ∷ d ∷ s) n e = cc

-- a board line does
pub begins_with_b : (line : List ℕ) → IsBoardLine line → (s : List ℕ) × (line ≡ 98 ∷ s)
begins_with_b [] h = absurd cc
begins_with_b (c ∷ s) h =
    let first : 98 ≡ c = eqb-true 98 c (and_parts (eqb 98 c) (starts_with eqb s (codes "oard:")) h).0 in
    (s, ap (λ (b : ℕ). b ∷ s) (sym first))

-- no board line is numbered
pub board_not_numbered : (line : List ℕ) → IsBoardLine line → IsNumbered line → ⊥
board_not_numbered line board h =
    let b = begins_with_b line board in
    none_with_b (before 32 b.0) h.0 (ap (λ (l : List ℕ). number_word (before 32 l)) (sym b.1) ∙ number_of line h.0 h.1)
