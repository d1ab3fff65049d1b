-- Texts that are split at a byte.
use Rattle.std.proofs.Common.{◌≡◌, ◌≢◌, ℕ, suc, ◌≤◌, ◌==◌, List, [], ◌∷◌, ◌++◌, length, Option, Some, None, refl, ap, arith, inl, inr}
use Rattle.std.specs.Prelude.{All}
use Rattle.std.specs.List.{slice_split, onto_first}
use Rattle.std.proofs.lemmas.Bool.{cases_eq, eq-eqb, ne_eqb}
use Rattle.std.proofs.lemmas.List.Elements.{All-head, All-tail, All-nil, All-cons}
use Rattle.fibs_fields.specs.Split.{before, after}
use Rattle.fibs_commands.specs.CommandReading.{words_after}

-- what is from c on
abbrev pub from : ℕ → Option (List ℕ) → List ℕ
from c None = []
from c (Some s) = c ∷ s

-- the two sides make the text again
pub before_and_from : (c : ℕ) (s : List ℕ) → s ≡ before c s ++ from c (after c s)
before_and_from c [] = refl
before_and_from c (b ∷ s) = elim (cases_eq b c) [
  | inl e ↦ rw (eq-eqb b c e) (ap (λ (x : ℕ). x ∷ s) e)
  | inr n ↦ rw (ne_eqb b c n) (ap (λ (t : List ℕ). b ∷ t) (before_and_from c s))
]

-- no byte of a text is c
abbrev pub Without : ℕ → List ℕ → Type 0
Without c s = All (λ b. b ≢ c) s

-- what is before the first c has none
pub before_without : (c : ℕ) (s : List ℕ) → Without c (before c s)
before_without c [] = All-nil (λ b. b ≢ c)
before_without c (b ∷ s) = elim (cases_eq b c) [
  | inl e ↦ rw (eq-eqb b c e) (All-nil (λ b. b ≢ c))
  | inr n ↦ rw (ne_eqb b c n) (All-cons (λ b. b ≢ c) b (before c s) n (before_without c s))
]

-- a text that has no c up to a c, or to its end, is split there
pub split_there : (c : ℕ) (w : List ℕ) (o : Option (List ℕ)) → Without c w
    → (before c (w ++ from c o) ≡ w) × (after c (w ++ from c o) ≡ o)
split_there c [] None h = (refl, refl)
split_there c [] (Some s) h = rw (eq-eqb c c refl) (refl, refl)
split_there c (b ∷ w) o h =
    let more = split_there c w o (All-tail (λ b. b ≢ c) b w h) in
    rw (ne_eqb b c (All-head (λ b. b ≢ c) b w h)) (ap (λ (t : List ℕ). b ∷ t) more.0, more.1)

-- the words of a text are what is before its first space, and the words after that
pub words_of : (s : List ℕ) → slice_split (λ b. b == 32) s ≡ before 32 s ∷ words_after (after 32 s)
words_of [] = refl
words_of (b ∷ s) = elim (cases_eq b 32) [
  | inl e ↦ rw (eq-eqb b 32 e) refl
  | inr n ↦ rw (ne_eqb b 32 n) (ap (onto_first b) (words_of s))
]

-- how much is left to read
abbrev pub left_len : Option (List ℕ) → ℕ
left_len None = 0
left_len (Some s) = suc (length s)

-- what is after c is shorter
pub after_shorter : (c : ℕ) (s : List ℕ) → left_len (after c s) ≤ length s
after_shorter c [] = omega arith
after_shorter c (b ∷ s) = elim (cases_eq b c) [
  | inl e ↦ rw (eq-eqb b c e) (omega arith)
  | inr n ↦ rw (ne_eqb b c n) (let shorter = after_shorter c s in omega arith)
]
