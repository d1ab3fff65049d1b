-- What holds of each row of the table of messages.
use Rattle.std.proofs.Common.{◌≡◌, ℕ, Bool, true, false, not, eqb, List, [], ◌∷◌, refl, subst, inl, inr}
use Rattle.std.specs.Prelude.{◌&&◌, ◌||◌}
use Rattle.std.specs.List.{list_all}
use Rattle.std.proofs.Math.Bool.{or-true}
use Rattle.std.proofs.lemmas.Bool.{and_parts, or_cases, not-true, cases_Bool, eqb-true}
use Rattle.fibs_fields.specs.Field.{Kind, takes_rest, may_be_absent}
use Rattle.fibs_messages.specs.Message.{Row, table, kinds_in, kinds_of, drops_spaces}
use Rattle.fibs_messages.proofs.MessageLemmas.FieldTexts.{TextLast}
use Rattle.fibs_fields.proofs.FieldLemmas.FieldValues.{has_values}

-- there is no field
abbrev is_nil : List Kind → Bool
is_nil [] = true
is_nil (k ∷ ks) = false

-- a text and a tail come last, as a test
abbrev text_last : List Kind → Bool
text_last [] = true
text_last (k ∷ ks) = (not (takes_rest k) || is_nil ks) && text_last ks

-- no field may be absent
abbrev pub has_all : List Kind → Bool
has_all ks = list_all (λ k. not (may_be_absent k)) ks

-- what is checked of each row
abbrev is_sound : ℕ → List Kind → Bool
is_sound n ks = list_all has_values ks && (text_last ks && (not (drops_spaces n) || has_all ks))

-- a number without a row passes
empty_sound : (n : ℕ) → is_sound n [] ≡ true
empty_sound n = or-true (not (drops_spaces n))

-- the rows pass, and so does each number
rows_sound : (rows : List Row) (n : ℕ) → list_all (λ r. is_sound r.number r.kinds) rows ≡ true
    → is_sound n (kinds_in rows n) ≡ true
rows_sound [] n h = empty_sound n
rows_sound (r ∷ rows) n h =
    let p = and_parts (is_sound r.number r.kinds) (list_all (λ (x : Row). is_sound x.number x.kinds) rows) h in
    elim (cases_Bool (eqb r.number n)) [
      | inl e ↦ rw e (subst (λ (m : ℕ). is_sound m r.kinds ≡ true) (eqb-true r.number n e) p.0)
      | inr e ↦ rw e (rows_sound rows n p.1)
    ]

-- the table passes
table_sound : list_all (λ r. is_sound r.number r.kinds) table ≡ true
unfolding table
table_sound = refl

-- and so does each message
kinds_sound : (n : ℕ) → is_sound n (kinds_of n) ≡ true
kinds_sound n = rows_sound table n table_sound

-- the test of no field decides it
nil_is : (ks : List Kind) → is_nil ks ≡ true → ks ≡ []
nil_is [] e = refl
nil_is (k ∷ ks) e = absurd cc

-- the test of the last field decides it
TextLast-from : (ks : List Kind) → text_last ks ≡ true → TextLast ks
TextLast-from [] e = tt
TextLast-from (k ∷ ks) e =
    let p = and_parts (not (takes_rest k) || is_nil ks) (text_last ks) e in (
      λ (t : takes_rest k ≡ true). elim (or_cases (not (takes_rest k)) (is_nil ks) p.0) [
        | inl n ↦ let f : takes_rest k ≡ false = not-true (takes_rest k) n in absurd cc
        | inr n ↦ nil_is ks n
      ],
      TextLast-from ks p.1,
    )

-- the fields of each message have values
pub values_are : (n : ℕ) → list_all has_values (kinds_of n) ≡ true
values_are n =
    (and_parts (list_all has_values (kinds_of n))
    (text_last (kinds_of n) && (not (drops_spaces n) || has_all (kinds_of n)))
    (kinds_sound n)).0

-- what else is checked of them
others_are : (n : ℕ) → (text_last (kinds_of n) && (not (drops_spaces n) || has_all (kinds_of n))) ≡ true
others_are n =
    (and_parts (list_all has_values (kinds_of n))
    (text_last (kinds_of n) && (not (drops_spaces n) || has_all (kinds_of n)))
    (kinds_sound n)).1

-- a text is the last field of each message
pub last_is : (n : ℕ) → TextLast (kinds_of n)
last_is n =
    TextLast-from (kinds_of n)
    (and_parts (text_last (kinds_of n)) (not (drops_spaces n) || has_all (kinds_of n)) (others_are n)).0

-- if spaces are dropped there is no text
pub no_text_where_dropped : (n : ℕ) → drops_spaces n ≡ true → has_all (kinds_of n) ≡ true
no_text_where_dropped n e =
    elim
    (or_cases (not (drops_spaces n)) (has_all (kinds_of n))
    (and_parts (text_last (kinds_of n)) (not (drops_spaces n) || has_all (kinds_of n)) (others_are n)).1) [
      | inl other ↦ let f : drops_spaces n ≡ false = not-true (drops_spaces n) other in absurd cc
      | inr h ↦ h
    ]
