-- The next field of a board line, as it is read: what it says of the pieces of the line.
use Rattle.std.proofs.Common.{◌≡◌, ◌∙◌, ℕ, ◌+◌, Bool, true, false, List, [], ◌∷◌, Option, Some, None, Result, Ok, Err, codes, drop, map, refl, sym, ap, subst, inl, inr}
use Rattle.std.specs.Prelude.{ℤ, IfOk, IfErr, slice_get}
use Rattle.std.specs.Result.{result_err}
use Rattle.std.specs.Str.{bytes_eq}
use Rattle.std.specs.List.{onto_first}
use Rattle.std.proofs.lemmas.Bool.{cases_eq, eq-eqb, ne_eqb}
use Rattle.std.proofs.lemmas.Slice.Eq.{bytes_eq-Decides}
use Rattle.fibs_fields.specs.Board.{allowed_by, field_values, pieces}
use Rattle.fibs_fields.specs.BoardReading.{first_fault, fault_or, pieces_of, pieces_left, NumberRead}
use Rattle.fibs_fields.specs.Decimal.{number_in}
use Rattle.fibs_fields.specs.DecimalReading.{IsNarrow}
use Rattle.fibs_fields.specs.Field.{Kind, the_word, a_name, a_number_of, may_be_absent, fault_in, FieldValue, NameField}
use Rattle.fibs_fields.specs.FieldReading.{Left, left, numbered, next_at, field_at, text_at, end_at, value_in, good, this_word, Gives, ◌>>=◌}
use Rattle.fibs_fields.specs.Name.{is_name}
use Rattle.fibs_fields.specs.Split.{before, after}
use Rattle.fibs_fields.specs.declared.fault.FieldFault.{FieldFault}
use Rattle.fibs_fields.specs.declared.fault.Fault.{Fault}
use Rattle.fibs_fields.specs.declared.fault.Fault.TheVariants.{Missing, Extra}
use Rattle.fibs_fields.specs.declared.values.Values.{Values}
use Rattle.fibs_fields.proofs.FieldLemmas.FieldFaults.{err_of_good, fault_of_value}
use Rattle.fibs_fields.proofs.NumberLemmas.Spelled.{number_in_spelled}
use Rattle.fibs_fields.proofs.BoardLemmas.OneNumberMore.{drop_next, extra_piece, fault_more}

-- the pieces of a text are what is before the first colon, and the pieces of what is after it
pub pieces_split : (s : List ℕ) → pieces s ≡ before 58 s ∷ pieces_of (after 58 s)
pieces_split [] = refl
pieces_split (b ∷ s) = elim (cases_eq b 58) [
  | inl e ↦ rw (eq-eqb b 58 e) refl
  | inr n ↦ rw (ne_eqb b 58 n) (ap (onto_first b) (pieces_split s))
]

-- a field of some kind was read: its text, and what is left after it
pub record IsNext (kind : Kind) (i : ℕ) (l : Left) (text : List ℕ) (m : Left) : Type 0 where
  pub colon : m.separator ≡ 58
  pub pieces : pieces_left l ≡ text ∷ pieces_left m
  pub later : (kinds : List Kind)
      → first_fault i (kind ∷ kinds) (pieces_left l) ≡ first_fault (i + 1) kinds (pieces_left m)

-- a reader refuses the texts that are not of the kind, with their faults, and the kind may not be absent
abbrev pub Reads : {A : Type 0} → (List ℕ → Result A Fault) → Kind → Type 0
Reads read kind = ((text : List ℕ) → result_err (read text) ≡ fault_in kind text) × (may_be_absent kind ≡ false)

-- what a field was read as
pub record WasRead {A : Type 0} (read : List ℕ → Result A Fault) (kind : Kind) (i : ℕ) (l : Left) (x : A) (m : Left)
    : Type 0 where
  pub text : List ℕ
  pub value : read text ≡ Ok x
  pub next : IsNext kind i l text m

-- one answer has one value and one rest
pub pair_same : {A : Type 0} (x y : A) (l m : Left) → ◌≡◌ {A = Result (A × Left) FieldFault} (Ok (x, l)) (Ok (y, m))
    → (x ≡ y) × (l ≡ m)
pair_same {A = A} x y l m h =
    let same : ◌≡◌ {A = A × Left} (x, l) (y, m) = cc in
    (ap (λ p. p.0) same, ap (λ p. p.1) same)

-- a value is no fault
ok_no_err : {A : Type 0} (x : A) (e : FieldFault) → ◌≡◌ {A = Result A FieldFault} (Ok x) (Err e) → ⊥
ok_no_err x e h = cc

-- one fault
err_same : {A : Type 0} (d e : FieldFault) → ◌≡◌ {A = Result A FieldFault} (Err d) (Err e) → d ≡ e
err_same d e h = cc

-- the pieces of what is left, if the first is of the kind, or is not
first_right : (kind : Kind) (i : ℕ) (s : List ℕ) (kinds : List Kind) → fault_in kind (before 58 s) ≡ None
    → first_fault i (kind ∷ kinds) (pieces s) ≡ first_fault (i + 1) kinds (pieces_of (after 58 s))
first_right kind i s kinds good =
    ap (first_fault i (kind ∷ kinds)) (pieces_split s)
    ∙ ap (λ o. fault_or i o (first_fault (i + 1) kinds (pieces_of (after 58 s)))) good

-- a wrong piece is the first fault
first_wrong : (kind : Kind) (i : ℕ) (s : List ℕ) (kinds : List Kind) (f : Fault) → fault_in kind (before 58 s) ≡ Some f
    → first_fault i (kind ∷ kinds) (pieces s) ≡ Some (record { field = i; fault = f })
first_wrong kind i s kinds f bad =
    ap (first_fault i (kind ∷ kinds)) (pieces_split s)
    ∙ ap (λ o. fault_or i o (first_fault (i + 1) kinds (pieces_of (after 58 s)))) bad

-- what was read, with what is left
abbrev read_with : {A : Type 0} → ℕ → Result A Fault → Left → Result (A × Left) FieldFault
read_with i r l = numbered i r >>= λ x. Ok (x, l)

-- a field that was read is of its kind
right_read : {A : Type 0} (read : List ℕ → Result A Fault) (kind : Kind) (i : ℕ) (s : List ℕ) (r : Result A Fault)
    (x : A) (m : Left) → Reads read kind → read (before 58 s) ≡ r
    → read_with i r (left 58 (after 58 s)) ≡ Ok (x, m) → WasRead read kind i (left 58 (Some s)) x m
right_read read kind i s (Ok y) x m reads is h =
    let same = pair_same y x (left 58 (after 58 s)) m h in
    let good : fault_in kind (before 58 s) ≡ None = sym (reads.0 (before 58 s)) ∙ ap result_err is in
    let next : IsNext kind i (left 58 (Some s)) (before 58 s) (left 58 (after 58 s)) =
    record { colon = refl; pieces = pieces_split s; later = λ kinds. first_right kind i s kinds good } in
    record {
      text = before 58 s;
      value = is ∙ ap Ok same.0;
      next =
          subst (IsNext kind i (left 58 (Some s)) (before 58 s)) same.1 next;
    }
right_read read kind i s (Err f) x m reads is h = absurd (ok_no_err (x, m) (record { field = i; fault = f }) (sym h))

-- a field that is refused is the first fault, by its answer
wrong_read : {A : Type 0} (read : List ℕ → Result A Fault) (kind : Kind) (i : ℕ) (s : List ℕ) (r : Result A Fault)
    (e : FieldFault) (kinds : List Kind) → Reads read kind → read (before 58 s) ≡ r
    → read_with i r (left 58 (after 58 s)) ≡ Err e → first_fault i (kind ∷ kinds) (pieces s) ≡ Some e
wrong_read read kind i s (Ok y) e kinds reads is h = absurd (ok_no_err (y, left 58 (after 58 s)) e h)
wrong_read read kind i s (Err f) e kinds reads is h =
    first_wrong kind i s kinds f (sym (reads.0 (before 58 s)) ∙ ap result_err is)
    ∙ ap Some (err_same (record { field = i; fault = f }) e h)

-- a field that is read
next_read : {A : Type 0} (read : List ℕ → Result A Fault) (kind : Kind) (i : ℕ) (rest : Option (List ℕ)) (x : A)
    (m : Left) → Reads read kind → next_at read i (left 58 rest) ≡ Ok (x, m) → WasRead read kind i (left 58 rest) x m
unfolding next_at text_at
next_read read kind i None x m reads h = absurd (ok_no_err (x, m) (record { field = i; fault = Missing }) (sym h))
next_read read kind i (Some s) x m reads h = right_read read kind i s (read (before 58 s)) x m reads refl h

-- a field that is refused
next_wrong : {A : Type 0} (read : List ℕ → Result A Fault) (kind : Kind) (i : ℕ) (rest : Option (List ℕ))
    (e : FieldFault) (kinds : List Kind) → Reads read kind → next_at read i (left 58 rest) ≡ Err e
    → first_fault i (kind ∷ kinds) (pieces_of rest) ≡ Some e
unfolding next_at text_at
next_wrong read kind i None e kinds reads h =
    rw reads.1 (ap Some (err_same (record { field = i; fault = Missing }) e h))
next_wrong read kind i (Some s) e kinds reads h = wrong_read read kind i s (read (before 58 s)) e kinds reads refl h

-- what is left, where it is parted by colons
by_colons : (l : Left) → l.separator ≡ 58 → left 58 l.rest ≡ l
by_colons l colon = λ i. left (sym colon i) l.rest

-- the same for what is left, where it is parted by colons
pub was_read : {A : Type 0} (read : List ℕ → Result A Fault) (kind : Kind) (i : ℕ) (l m : Left) (x : A)
    → Reads read kind → l.separator ≡ 58 → next_at read i l ≡ Ok (x, m) → WasRead read kind i l x m
was_read read kind i l m x reads colon h =
    subst (λ k. WasRead read kind i k x m) (by_colons l colon)
    (next_read read kind i l.rest x m reads (subst (λ (c : ℕ). next_at read i (left c l.rest) ≡ Ok (x, m)) colon h))

-- a field that is refused is the first fault
pub was_wrong : {A : Type 0} (read : List ℕ → Result A Fault) (kind : Kind) (i : ℕ) (l : Left) (e : FieldFault)
    (kinds : List Kind) → Reads read kind → l.separator ≡ 58 → next_at read i l ≡ Err e
    → first_fault i (kind ∷ kinds) (pieces_left l) ≡ Some e
was_wrong read kind i l e kinds reads colon h =
    next_wrong read kind i l.rest e kinds reads (subst (λ (c : ℕ). next_at read i (left c l.rest) ≡ Err e) colon h)

-- ---- the kinds

-- a name is read as any piece is
name_of_left : (i c : ℕ) (rest : Option (List ℕ))
    → field_at a_name i (left c rest) ≡ next_at (value_in a_name) i (left c rest)
unfolding field_at next_at text_at
name_of_left i c None = refl
name_of_left i c (Some s) = refl

-- a name is read as the next field
pub name_is_next : (i : ℕ) (l : Left) → field_at a_name i l ≡ next_at (value_in a_name) i l
name_is_next i l = name_of_left i l.separator l.rest

-- names are read as their kind says
pub reads_name : Reads (value_in a_name) a_name
reads_name = (fault_of_value a_name, refl)

-- and so are numbers
pub reads_number : (values : Values) → Reads (number_in values) (a_number_of values)
reads_number values = (λ text. refl, refl)

-- and the word `board`
pub reads_board : Reads (this_word (codes "board")) (the_word (codes "board"))
reads_board = (λ text. err_of_good (bytes_eq text (codes "board")) (codes "board"), refl)

-- a test that was passed
if_good : {A : Type 0} (test : Bool) (x y : A) → good test x ≡ Ok y → (test ≡ true) × (x ≡ y)
if_good true x y h = (refl, cc)
if_good false x y h = cc

-- a text that is read as a word or a name is that
pub is_this_word : (word text : List ℕ) → this_word word text ≡ Ok word → text ≡ word
is_this_word word text h = (bytes_eq-Decides text word).0 (if_good (bytes_eq text word) word word h).0

-- a name that is read is the text
pub is_this_name : (text s : List ℕ) → value_in a_name text ≡ Ok (NameField s) → (text ≡ s) × (is_name s ≡ true)
unfolding value_in
is_this_name text s h =
    let name = if_good (is_name text) (NameField text) (NameField s) h in
    let same : text ≡ s = cc in
    (same, subst (λ (t : List ℕ). is_name t ≡ true) same name.0)

-- the word `board` was read
pub word_next : (l m : Left) → l.separator ≡ 58 → next_at (this_word (codes "board")) 1 l ≡ Ok (codes "board", m)
    → IsNext (the_word (codes "board")) 1 l (codes "board") m
word_next l m colon h =
    let read =
    was_read (this_word (codes "board")) (the_word (codes "board")) 1 l m (codes "board") reads_board colon h in
    subst (λ t. IsNext (the_word (codes "board")) 1 l t m) (is_this_word (codes "board") read.text read.value) read.next

-- a name was read
pub name_next : (i : ℕ) (l m : Left) (s : List ℕ) → l.separator ≡ 58 → field_at a_name i l ≡ Ok (NameField s, m)
    → IsNext a_name i l s m
name_next i l m s colon h =
    let read = was_read (value_in a_name) a_name i l m (NameField s) reads_name colon (sym (name_is_next i l) ∙ h) in
    subst (λ t. IsNext a_name i l t m) (is_this_name read.text s read.value).0 read.next

-- a name was refused
pub name_wrong : (i : ℕ) (l : Left) (e : FieldFault) (kinds : List Kind) → l.separator ≡ 58
    → field_at a_name i l ≡ Err e → first_fault i (a_name ∷ kinds) (pieces_left l) ≡ Some e
name_wrong i l e kinds colon h =
    was_wrong (value_in a_name) a_name i l e kinds reads_name colon (sym (name_is_next i l) ∙ h)

-- a number was read
pub number_next : (i : ℕ) (v : Values) (z : ℤ) (l m : Left) → IsNarrow v → slice_get field_values i ≡ Some v
    → l.separator ≡ 58 → next_at (number_in v) (i + 4) l ≡ Ok (z, m) → NumberRead i z l m
number_next i v z l m narrow is colon h =
    let read = was_read (number_in v) (a_number_of v) (i + 4) l m z (reads_number v) colon h in
    let spelled = number_in_spelled v read.text z narrow read.value in
    record {
      colon = read.next.colon;
      pieces = read.next.pieces ∙ ap (λ t. t ∷ pieces_left m) spelled.0;
      allowed = ap (λ o. allowed_by o z) is ∙ spelled.1;
      fault = fault_more field_values i v (pieces_left l) (pieces_left m) is read.next.later;
    }

-- what reading a number gave
pub number_ok : (i : ℕ) (v : Values) (l m : Left) (r : Result ℤ FieldFault) → IsNarrow v
    → slice_get field_values i ≡ Some v → l.separator ≡ 58 → Gives (λ z. (z, m)) r (next_at (number_in v) (i + 4) l)
    → IfOk r (λ z. NumberRead i z l m)
number_ok i v l m (Ok z) narrow is colon h = number_next i v z l m narrow is colon h
number_ok i v l m (Err e) narrow is colon h = tt

-- or the fault
pub number_err : (i : ℕ) (v : Values) (l m : Left) (r : Result ℤ FieldFault) → slice_get field_values i ≡ Some v
    → l.separator ≡ 58 → Gives (λ z. (z, m)) r (next_at (number_in v) (i + 4) l)
    → IfErr r (λ e. first_fault (i + 4) (map a_number_of (drop i field_values)) (pieces_left l) ≡ Some e)
number_err i v l m (Ok z) is colon h = tt
number_err i v l m (Err e) is colon h =
    ap (λ vs. first_fault (i + 4) (map a_number_of vs) (pieces_left l)) (drop_next field_values i v is)
    ∙ was_wrong (number_in v) (a_number_of v) (i + 4) l e (map a_number_of (drop (i + 1) field_values))
    (reads_number v) colon h

-- nothing is left, or more than there should be
end_right_of : (i c : ℕ) (rest : Option (List ℕ)) (vs : List FieldValue) → end_at i (left c rest) ≡ Ok vs
    → pieces_of rest ≡ []
unfolding end_at
end_right_of i c None vs h = refl
end_right_of i c (Some s) vs h = absurd (ok_no_err vs (record { field = i; fault = Extra }) (sym h))

-- nothing is left at the end
pub end_right : (i : ℕ) (l : Left) (vs : List FieldValue) → end_at i l ≡ Ok vs → pieces_left l ≡ []
end_right i l vs h = end_right_of i l.separator l.rest vs h

-- something is left
end_wrong_of : (i c : ℕ) (rest : Option (List ℕ)) (e : FieldFault) → end_at i (left c rest) ≡ Err e
    → first_fault i [] (pieces_of rest) ≡ Some e
unfolding end_at
end_wrong_of i c None e h = absurd (ok_no_err [] e h)
end_wrong_of i c (Some s) e h = extra_piece i s ∙ ap Some (err_same (record { field = i; fault = Extra }) e h)

-- what is left at the end is the first fault
pub end_wrong : (i : ℕ) (l : Left) (e : FieldFault) → end_at i l ≡ Err e → first_fault i [] (pieces_left l) ≡ Some e
end_wrong i l e h = end_wrong_of i l.separator l.rest e h
