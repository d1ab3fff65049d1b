-- The number with which a line begins.
use Rattle.std.proofs.Common.{◌≡◌, ◌∙◌, ℕ, ◌+◌, ◌-◌, ◌≤◌, ◌/◌, ◌%◌, Bool, true, false, cond, leb, eqb, List, [], ◌∷◌, decimal, Some, None, refl, sym, ap, arith, inl, inr}
use Rattle.std.specs.Prelude.{◌&&◌}
use Rattle.std.specs.Int.{is_in_range}
use Rattle.std.proofs.lemmas.Bool.{and_parts, and_from, leb-true, le-leb, eqb-true, cases_lt}
use Rattle.std.proofs.lemmas.Fmt.{decimal_digit, decimal_step}
use Rattle.fibs_messages.specs.Message.{number_word, IsNumber}

-- the text of a number from 1 to 19
pub record IsNumberWord (text : List ℕ) (n : ℕ) : Type 0 where
  pub number : IsNumber n
  pub text_is : text ≡ decimal n

-- a test that was passed
some_if : {A : Type 0} (b : Bool) (x v : A) → cond b (Some x) None ≡ Some v → (b ≡ true) × (x ≡ v)
some_if true x v e = (refl, cc)
some_if false x v e = absurd cc

-- the text of 10 to 19
two_digits : (n : ℕ) → 10 ≤ n → n ≤ 19 → decimal n ≡ 49 ∷ (48 + (n - 10)) ∷ []
two_digits n low high =
    let q : n / 10 ≡ 1 = omega arith in
    let r : n % 10 ≡ n - 10 = omega arith in
    decimal_step n low (omega arith) ∙ rw (q, r, decimal_digit 1 (omega arith)) refl

-- a word that is read as a number is its text
pub number_sound : (text : List ℕ) (n : ℕ) → number_word text ≡ Some n → IsNumberWord text n
number_sound [] n e = absurd cc
number_sound (d ∷ []) n e =
    let p = some_if (is_in_range 49 57 d) (d - 48) n e in
    let q = and_parts (leb 49 d) (leb d 57) p.0 in
    let low = leb-true 49 d q.0 in
    let high = leb-true d 57 q.1 in
    let is : d ≡ 48 + n = omega (arith, p.1) in
    record {
      number = (omega (arith, p.1), omega (arith, p.1));
      text_is = ap (λ (b : ℕ). b ∷ []) is
          ∙ sym (decimal_digit n (omega (arith, p.1)));
    }
number_sound (d ∷ f ∷ []) n e =
    let p = some_if (eqb d 49 && is_in_range 48 57 f) (10 + (f - 48)) n e in
    let r = and_parts (eqb d 49) (is_in_range 48 57 f) p.0 in
    let q = and_parts (leb 48 f) (leb f 57) r.1 in
    let low = leb-true 48 f q.0 in
    let high = leb-true f 57 q.1 in
    let is : f ≡ 48 + (n - 10) = omega (arith, p.1) in
    record {
      number = (omega (arith, p.1), omega (arith, p.1));
      text_is = ap (λ (b : ℕ). b ∷ f ∷ []) (eqb-true d 49 r.0)
          ∙ (ap (λ (b : ℕ). 49 ∷ b ∷ []) is ∙ sym (two_digits n (omega (arith, p.1)) (omega (arith, p.1))));
    }
number_sound (d ∷ f ∷ g ∷ s) n e = absurd cc

-- a byte between two others
in_range : (a b c : ℕ) → a ≤ c → c ≤ b → is_in_range a b c ≡ true
in_range a b c low high = and_from (leb a c) (leb c b) (le-leb a c low) (le-leb c b high)

-- the text of a number is read as it
pub number_complete : (n : ℕ) → IsNumber n → number_word (decimal n) ≡ Some n
number_complete n h = elim (cases_lt n 10) [
  | inl lt ↦
      let v : 48 + n - 48 ≡ n = omega arith in
      rw (decimal_digit n lt, in_range 49 57 (48 + n) (omega (arith, h.0)) (omega arith)) (ap (λ (x : ℕ). Some x) v)
  | inr le ↦
      let v : 10 + (48 + (n - 10) - 48) ≡ n = omega arith in
      rw (two_digits n le h.1, in_range 48 57 (48 + (n - 10)) (omega arith) (omega (arith, h.1)))
      (ap (λ (x : ℕ). Some x) v)
]
