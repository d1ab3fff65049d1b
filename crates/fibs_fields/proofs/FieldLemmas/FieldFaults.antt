-- The first wrong field, both ways.
use Rattle.std.proofs.Common.{◌≡◌, ◌∙◌, ℕ, zero, suc, ◌+◌, ◌<◌, Bool, true, false, List, [], ◌∷◌, Option, Some, None, Result, Ok, Err, refl, sym, ap, subst, arith, inl, inr}
use Rattle.std.specs.Result.{result_err}
use Rattle.std.specs.Str.{bytes_eq}
use Rattle.std.proofs.lemmas.Bool.{cases_Bool, cases_order}
use Rattle.fibs_fields.specs.declared.fault.FieldFault.{FieldFault}
use Rattle.fibs_fields.specs.declared.fault.Fault.{Fault}
use Rattle.fibs_fields.specs.declared.fault.Fault.TheVariants.{Missing}
use Rattle.fibs_fields.specs.Decimal.{number_in}
use Rattle.fibs_fields.specs.Field.{Kind, the_word, a_number_of, a_name, a_word, a_tail, a_flag, a_number, a_rating, a_text, FieldValue, FlagField, NumberField, RatingField, TextField, takes_rest, may_be_absent, flag_values, number_values, fault_in, texts_for, fault_at, bad_name_unless}
use Rattle.fibs_fields.specs.FieldReading.{Left, left, ◌>>=◌, good, natural, numbered, fault_of_field, value_in, text_at, field_at, end_at, fields_at}
use Rattle.fibs_fields.specs.Name.{is_name}
use Rattle.fibs_fields.specs.Rating.{rating_in}
use Rattle.fibs_fields.specs.Split.{before, after}
use Rattle.fibs_fields.specs.Word.{is_word, is_tail}
use Rattle.fibs_fields.proofs.FieldLemmas.Options.{option_same, some_none}

-- ---- the fault of a text is that of reading it

-- the fault of a test
pub err_of_good : {A : Type 0} (test : Bool) (x : A) → result_err (good test x) ≡ bad_name_unless test
err_of_good true x = refl
err_of_good false x = refl

-- a second step that never fails has no fault
err_of_bind : {A B : Type 0} (r : Result A Fault) (f : A → B) → result_err (r >>= λ x. Ok (f x)) ≡ result_err r
err_of_bind (Ok x) f = refl
err_of_bind (Err e) f = refl

-- the fault of reading a value is that of its text
pub fault_of_value : (k : Kind) (text : List ℕ) → result_err (value_in k text) ≡ fault_in k text
unfolding value_in
fault_of_value (the_word word) text = err_of_good (bytes_eq text word) _
fault_of_value (a_number_of values) text = err_of_bind (number_in values text) (λ z. NumberField (natural z))
fault_of_value a_name text = err_of_good (is_name text) _
fault_of_value a_word text = err_of_good (is_word text) _
fault_of_value a_tail text = err_of_good (is_tail text) _
fault_of_value a_flag text =
    err_of_bind (number_in flag_values text)
    (λ z. FlagField (lib.Dec.compare_is_eq (Prim.Native.Nat.compare (natural z) 1)))
fault_of_value a_number text = err_of_bind (number_in number_values text) (λ z. NumberField (natural z))
fault_of_value a_rating text = err_of_bind (rating_in text) (λ r. RatingField r)
fault_of_value a_text text = refl

-- ---- one first fault

-- one place and one fault
pub record SameFault (i j : ℕ) (f g : Fault) : Type 0 where
  pub place : i ≡ j
  pub fault : f ≡ g

-- the place i is wrong for the reason f, and none before it is wrong
pub record IsLeast (ks : List Kind) (texts : List (List ℕ)) (i : ℕ) (f : Fault) : Type 0 where
  pub here : fault_at ks texts i ≡ Some f
  pub before : (j : ℕ) → j < i → fault_at ks texts j ≡ None

-- there is one first fault
pub one_first : (ks : List Kind) (texts : List (List ℕ)) (i j : ℕ) (f g : Fault) → IsLeast ks texts i f
    → IsLeast ks texts j g → SameFault i j f g
one_first ks texts i j f g a b = elim (cases_order i j) [
  | inl e ↦ record { place = e; fault = option_same f g (sym a.here ∙ (ap (fault_at ks texts) e ∙ b.here)) }
  | inr o ↦ elim o [
    | inl lt ↦ absurd (some_none f (sym a.here ∙ b.before i lt))
    | inr gt ↦ absurd (some_none g (sym b.here ∙ a.before j gt))
  ]
]

-- ---- reading fields ends well if nothing is wrong, and else with the first fault

-- if nothing is left there are no texts
pub no_texts : (ks : List Kind) (c : ℕ) → texts_for ks c None ≡ []
no_texts [] c = refl
no_texts (k ∷ ks) c = refl

-- what reading fields, counted from i, says of the texts
abbrev pub Tells : List Kind → ℕ → List (List ℕ) → Result (List FieldValue) FieldFault → Type 0
Tells ks i texts (Ok vs) = (j : ℕ) → fault_at ks texts j ≡ None
Tells ks i texts (Err e) = (j : ℕ) × (e.field ≡ i + j) × IsLeast ks texts j e.fault

-- no place is before the first
none_before : (ks : List Kind) (texts : List (List ℕ)) (j : ℕ) → j < 0 → fault_at ks texts j ≡ None
none_before ks texts j lt = absurd (omega arith)

-- a right field before right ones
all_right : (k : Kind) (ks : List Kind) (text : List ℕ) (texts : List (List ℕ)) → fault_in k text ≡ None
    → ((j : ℕ) → fault_at ks texts j ≡ None) → (j : ℕ) → fault_at (k ∷ ks) (text ∷ texts) j ≡ None
all_right k ks text texts here none zero = here
all_right k ks text texts here none (suc j) = none j

-- a right field before the first wrong one
all_before : (k : Kind) (ks : List Kind) (text : List ℕ) (texts : List (List ℕ)) (i : ℕ) → fault_in k text ≡ None
    → ((j : ℕ) → j < i → fault_at ks texts j ≡ None) → (j : ℕ) → j < suc i → fault_at (k ∷ ks) (text ∷ texts) j ≡ None
all_before k ks text texts i here none zero lt = here
all_before k ks text texts i here none (suc j) lt = none j (omega arith)

-- the first field is right, and the others are known
tells_more : (k : Kind) (ks : List Kind) (i : ℕ) (text : List ℕ) (texts : List (List ℕ)) (v : FieldValue)
    (read : Result (List FieldValue) FieldFault) → fault_in k text ≡ None → Tells ks (i + 1) texts read
    → Tells (k ∷ ks) i (text ∷ texts) (read >>= λ vs. Ok (v ∷ vs))
tells_more k ks i text texts v (Ok vs) here t = all_right k ks text texts here t
tells_more k ks i text texts v (Err e) here t =
    (suc t.0, omega (arith, t.1), record { here = t.2.here; before = all_before k ks text texts t.0 here t.2.before })

-- an absent text is right
absent_right : (ks : List Kind) → ((j : ℕ) → fault_at ks [] j ≡ None) → (j : ℕ) → fault_at (a_text ∷ ks) [] j ≡ None
absent_right ks none zero = refl
absent_right ks none (suc j) = none j

-- and so before the first wrong field
absent_before : (ks : List Kind) (i : ℕ) → ((j : ℕ) → j < i → fault_at ks [] j ≡ None) → (j : ℕ) → j < suc i
    → fault_at (a_text ∷ ks) [] j ≡ None
absent_before ks i none zero lt = refl
absent_before ks i none (suc j) lt = none j (omega arith)

-- an absent text, and what follows
tells_absent : (ks : List Kind) (i : ℕ) (v : FieldValue) (read : Result (List FieldValue) FieldFault)
    → Tells ks (i + 1) [] read → Tells (a_text ∷ ks) i [] (read >>= λ vs. Ok (v ∷ vs))
tells_absent ks i v (Ok vs) t = absent_right ks t
tells_absent ks i v (Err e) t =
    (suc t.0, omega (arith, t.1), record { here = t.2.here; before = absent_before ks t.0 t.2.before })

-- a field that was read as a value, with what is left
abbrev read_as : ℕ → Result FieldValue Fault → Left → Result (FieldValue × Left) FieldFault
read_as i value l = numbered i value >>= λ v. Ok (v, l)

-- a text is read as its kind
tells_text : (k : Kind) (ks : List Kind) (i c : ℕ) (text : List ℕ) (o : Option (List ℕ))
    (value : Result FieldValue Fault) → result_err value ≡ fault_in k text
    → Tells ks (i + 1) (texts_for ks c o) (fields_at ks (i + 1) (left c o))
    → Tells (k ∷ ks) i (text ∷ texts_for ks c o)
    (read_as i value (left c o) >>= λ x. fields_at ks (i + 1) x.1 >>= λ vs. Ok (x.0 ∷ vs))
tells_text k ks i c text o (Ok v) is t =
    tells_more k ks i text (texts_for ks c o) v (fields_at ks (i + 1) (left c o)) (sym is) t
tells_text k ks i c text o (Err f) is t =
    (0, omega arith, record { here = sym is; before = none_before (k ∷ ks) (text ∷ texts_for ks c o) })

-- an absent field of another kind
tells_missing : (k : Kind) (ks : List Kind) (i : ℕ) → may_be_absent k ≡ false
    → Tells (k ∷ ks) i [] (fault_of_field i Missing)
tells_missing k ks i must = (0, omega arith, record { here = rw must refl; before = none_before (k ∷ ks) [] })

-- an absent text and the fields after it
tells_no_text : (ks : List Kind) (i c : ℕ) → Tells ks (i + 1) (texts_for ks c None) (fields_at ks (i + 1) (left c None))
    → Tells (a_text ∷ ks) i []
    (field_at a_text i (left c None) >>= λ x. fields_at ks (i + 1) x.1 >>= λ vs. Ok (x.0 ∷ vs))
unfolding field_at text_at value_in
tells_no_text ks i c t =
    tells_absent ks i (TextField []) (fields_at ks (i + 1) (left c None))
    (subst (λ (texts : List (List ℕ)). Tells ks (i + 1) texts (fields_at ks (i + 1) (left c None))) (no_texts ks c)
    t)

-- what reading the fields answers holds of their texts
pub tells : (ks : List Kind) (i c : ℕ) (o : Option (List ℕ)) → Tells ks i (texts_for ks c o) (fields_at ks i (left c o))
unfolding field_at text_at end_at
tells [] i c None = λ j. refl
tells [] i c (Some s) = (0, omega arith, record { here = refl; before = none_before [] (s ∷ []) })
tells (the_word word ∷ ks) i c None = tells_missing (the_word word) ks i refl
tells (a_number_of values ∷ ks) i c None = tells_missing (a_number_of values) ks i refl
tells (a_name ∷ ks) i c None = tells_missing a_name ks i refl
tells (a_word ∷ ks) i c None = tells_missing a_word ks i refl
tells (a_tail ∷ ks) i c None = tells_missing a_tail ks i refl
tells (a_flag ∷ ks) i c None = tells_missing a_flag ks i refl
tells (a_number ∷ ks) i c None = tells_missing a_number ks i refl
tells (a_rating ∷ ks) i c None = tells_missing a_rating ks i refl
tells (a_text ∷ ks) i c None = tells_no_text ks i c (tells ks (i + 1) c None)
tells (k ∷ ks) i c (Some s) = elim (cases_Bool (takes_rest k)) [
  | inl e ↦
      rw e
      (subst
      (λ (texts : List (List ℕ)). Tells (k ∷ ks) i (s ∷ texts)
      (read_as i (value_in k s) (left c None) >>= λ x. fields_at ks (i + 1) x.1 >>= λ vs. Ok (x.0 ∷ vs)))
      (no_texts ks c) (tells_text k ks i c s None (value_in k s) (fault_of_value k s) (tells ks (i + 1) c None)))
  | inr e ↦
      rw e
      (tells_text k ks i c (before c s) (after c s) (value_in k (before c s)) (fault_of_value k (before c s))
      (tells ks (i + 1) c (after c s)))
]
