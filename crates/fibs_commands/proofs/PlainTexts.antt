-- What a plain command without a fault is made of: a name, a printed text, and points of 16 bits.
use Rattle.std.proofs.Common.{◌≡◌, ℕ, ◌≤◌, Bool, true, false, cond, nat_le, List, length, Option, Some, None, refl, sym, ◌∙◌, arith}
use Rattle.std.proofs.lemmas.Bool.Decides.{nat_tests}
use Rattle.fibs_fields.specs.Name.{is_name}
use Rattle.fibs_commands.specs.PlainCommands.{PlainValue, first_of, name_fault, text_fault, points_fault, is_printed, plain_fault_of}
use Rattle.fibs_commands.specs.declared.plain.PlainFault.{PlainFault}
use Rattle.fibs_commands.specs.declared.plain.PlainFault.TheVariants.{BadName, BadText, TooLong}

-- a text that has no fault
abbrev pub IsText : List ℕ → Type 0
IsText text = (length text ≤ 400) × (is_printed text ≡ true)

-- there is no first of two faults
no_fault : (a b : Option PlainFault) → first_of a b ≡ None → (a ≡ None) × (b ≡ None)
no_fault None b h = (refl, h)
no_fault (Some f) b h = absurd cc

-- a name without a fault
name_right : (name : List ℕ) → name_fault name ≡ None → is_name name ≡ true
name_right name h = go (is_name name) h
  where
    go : (t : Bool) → cond t None (Some BadName) ≡ None → t ≡ true
    go true h = refl
    go false h = absurd cc

-- a text without a fault
text_right : (text : List ℕ) → text_fault text ≡ None → IsText text
text_right text h = go (nat_le (length text) 400) refl h
  where
    printed : (t : Bool) → cond t None (Some BadText) ≡ None → t ≡ true
    printed true h = refl
    printed false h = absurd cc

    go : (t : Bool) → nat_le (length text) 400 ≡ t
        → cond t (cond (is_printed text) None (Some BadText)) (Some TooLong) ≡ None → IsText text
    go true e h = (grind (arith, nat_tests), printed (is_printed text) h)
    go false e h = absurd cc

-- points without a fault
points_right : (points : ℕ) → points_fault points ≡ None → points ≤ 65535
points_right points h = go (nat_le points 65535) refl h
  where
    go : (t : Bool) → nat_le points 65535 ≡ t → cond t None (Some TooLong) ≡ None → points ≤ 65535
    go true e h = grind (arith, nat_tests)
    go false e h = absurd cc

-- the name is one, if only a name can be wrong
pub name_in_it : (plain : PlainValue) (name : List ℕ) → plain_fault_of plain ≡ name_fault name
    → plain_fault_of plain ≡ None → is_name name ≡ true
name_in_it plain name e h = name_right name (sym e ∙ h)

-- the text is one, if only a text can be
pub text_in_it : (plain : PlainValue) (text : List ℕ) → plain_fault_of plain ≡ text_fault text
    → plain_fault_of plain ≡ None → IsText text
text_in_it plain text e h = text_right text (sym e ∙ h)

-- both are, if both can be
pub both_in_it : (plain : PlainValue) (name text : List ℕ)
    → plain_fault_of plain ≡ first_of (name_fault name) (text_fault text) → plain_fault_of plain ≡ None
    → (is_name name ≡ true) × IsText text
both_in_it plain name text e h =
    let none = no_fault (name_fault name) (text_fault text) (sym e ∙ h) in
    (name_right name none.0, text_right text none.1)

-- and so are the name and the points of an invitation
pub points_in_it : (plain : PlainValue) (name : List ℕ) (points : ℕ)
    → plain_fault_of plain ≡ first_of (name_fault name) (points_fault points) → plain_fault_of plain ≡ None
    → (is_name name ≡ true) × (points ≤ 65535)
points_in_it plain name points e h =
    let none = no_fault (name_fault name) (points_fault points) (sym e ∙ h) in
    (name_right name none.0, points_right points none.1)
