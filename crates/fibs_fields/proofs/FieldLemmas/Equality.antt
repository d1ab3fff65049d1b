-- Lists of values are equal exactly if a test goes through them, as `==` of a message's fields does.
use Rattle.std.proofs.Common.{◌≡◌, ℕ, Bool, true, false, List, [], ◌∷◌, refl, ap, ap₂, arith}
use Rattle.std.specs.Prelude.{◌==◌, ◌&&◌}
use Rattle.std.specs.Bool.{Decides, beq}
use Rattle.std.specs.Cmp.{booleans_Decides}
use Rattle.std.specs.Str.{bytes_eq}
use Rattle.std.proofs.lemmas.Bool.Decides.{Decides-eqb, Decides-and, Decides-like}
use Rattle.std.proofs.lemmas.Slice.Eq.{bytes_eq-Decides}
use Rattle.fibs_fields.specs.Field.{FieldValue, NameField, WordField, TailField, FlagField, NumberField, RatingField, TextField}

-- what a value holds, if it is bytes, a flag or a number
abbrev bytes_in : FieldValue → List ℕ
bytes_in (NameField s) = s
bytes_in (WordField s) = s
bytes_in (TailField s) = s
bytes_in (TextField s) = s
bytes_in v = []

-- the flag of a value, if it is one
abbrev flag_in : FieldValue → Bool
flag_in (FlagField b) = b
flag_in v = false

-- the number of a value, if it is one
abbrev number_in : FieldValue → ℕ
number_in (NumberField n) = n
number_in (RatingField n) = n
number_in v = 0

-- a number by which the kinds of values differ
abbrev kind_in : FieldValue → ℕ
kind_in (NameField s) = 0
kind_in (WordField s) = 1
kind_in (TailField s) = 2
kind_in (FlagField b) = 3
kind_in (NumberField n) = 4
kind_in (RatingField n) = 5
kind_in (TextField s) = 6

-- two values of one kind are compared
abbrev pub same_value : FieldValue → FieldValue → Bool
same_value (NameField s) (NameField t) = bytes_eq s t
same_value (WordField s) (WordField t) = bytes_eq s t
same_value (TailField s) (TailField t) = bytes_eq s t
same_value (FlagField a) (FlagField b) = beq a b
same_value (NumberField m) (NumberField n) = m == n
same_value (RatingField m) (RatingField n) = m == n
same_value (TextField s) (TextField t) = bytes_eq s t
same_value u v = false

-- the values of two lists are compared one after another
abbrev pub same_values : List FieldValue → List FieldValue → Bool
same_values [] [] = true
same_values [] (v ∷ vs) = false
same_values (u ∷ us) [] = false
same_values (u ∷ []) (v ∷ []) = same_value u v
same_values (u ∷ []) (v ∷ w ∷ vs) = false
same_values (u ∷ t ∷ us) (v ∷ []) = false
same_values (u ∷ t ∷ us) (v ∷ w ∷ vs) = same_value u v && same_values (t ∷ us) (w ∷ vs)

-- a test that fails decides what is not so
pub never : {P : Type 0} → (P → ⊥) → Decides false P
never no_p = (λ e. absurd cc, λ p. absurd (no_p p))

-- the test of two values decides
same_value_decides : (u v : FieldValue) → Decides (same_value u v) (u ≡ v)
same_value_decides (NameField s) (NameField t) =
    Decides-like (bytes_eq s t) (ap NameField) (ap bytes_in) (bytes_eq-Decides s t)
same_value_decides (WordField s) (WordField t) =
    Decides-like (bytes_eq s t) (ap WordField) (ap bytes_in) (bytes_eq-Decides s t)
same_value_decides (TailField s) (TailField t) =
    Decides-like (bytes_eq s t) (ap TailField) (ap bytes_in) (bytes_eq-Decides s t)
same_value_decides (FlagField a) (FlagField b) =
    Decides-like (beq a b) (ap FlagField) (ap flag_in) (booleans_Decides a b)
same_value_decides (NumberField m) (NumberField n) =
    Decides-like (m == n) (ap NumberField) (ap number_in) (Decides-eqb m n)
same_value_decides (RatingField m) (RatingField n) =
    Decides-like (m == n) (ap RatingField) (ap number_in) (Decides-eqb m n)
same_value_decides (TextField s) (TextField t) =
    Decides-like (bytes_eq s t) (ap TextField) (ap bytes_in) (bytes_eq-Decides s t)
same_value_decides u v = never (λ e. omega (arith, ap kind_in e))

-- the first of a list, and the others
abbrev first_of : FieldValue → List FieldValue → FieldValue
first_of v [] = v
first_of v (u ∷ us) = u

-- a list without its first element
abbrev others_of : List FieldValue → List FieldValue
others_of [] = []
others_of (u ∷ us) = us

-- the test of two lists decides
pub same_values_decides : (us vs : List FieldValue) → Decides (same_values us vs) (us ≡ vs)
same_values_decides [] [] = (λ e. refl, λ e. refl)
same_values_decides [] (v ∷ vs) = never (λ e. absurd cc)
same_values_decides (u ∷ us) [] = never (λ e. absurd cc)
same_values_decides (u ∷ []) (v ∷ []) =
    Decides-like (same_value u v) (ap (λ x. x ∷ [])) (ap (first_of u)) (same_value_decides u v)
same_values_decides (u ∷ []) (v ∷ w ∷ vs) = never (λ e. absurd cc)
same_values_decides (u ∷ t ∷ us) (v ∷ []) = never (λ e. absurd cc)
same_values_decides (u ∷ t ∷ us) (v ∷ w ∷ vs) =
    Decides-like (same_value u v && same_values (t ∷ us) (w ∷ vs)) (λ both. ap₂ (λ x xs. x ∷ xs) both.0 both.1)
    (λ e. (ap (first_of u) e, ap others_of e))
    (Decides-and (same_value u v) (same_values (t ∷ us) (w ∷ vs)) (same_value_decides u v)
    (same_values_decides (t ∷ us) (w ∷ vs)))
