-- Texts that say dice.
use Rattle.std.proofs.Common.{◌≡◌, ◌∙◌, ◌==◌, ◌++◌, ◌-◌, ◌<◌, ◌≤◌, ◌&&◌, ℕ, Bool, true, not, List, [], ◌∷◌, Some, codes, drop, get_or, length, length-drop, slice_index, take, take_all, refl, sym, ap, arith, inl, inr}
use Rattle.std.specs.List.{list_all}
use Rattle.std.proofs.lemmas.Bool.{cases_eq, eq-eqb, ne_eqb}
use Rattle.std.proofs.lemmas.List.{append_cancel_left}
use Rattle.fibs_fields.specs.Split.{before, after}
use Rattle.fibs_fields.proofs.FieldLemmas.Splits.{cut_off}
use Rattle.fibs_commands.proofs.SplitLemmas.{before_and_from, from}
use Rattle.fibs_position.specs.BoardEffect.{IsDie}
use Rattle.fibs_events.specs.Texts.{SaysOpening, digit_of, opening_words}
use Rattle.fibs_events.proofs.FindingLemmas.{something_is_it}

-- no such byte is before the first one
pub none_before : (c : ℕ) (s : List ℕ) → list_all (λ b. not (b == c)) (before c s) ≡ true
none_before c [] = refl
none_before c (b ∷ s) = elim (cases_eq b c) [
  | inl e ↦ rw (eq-eqb b c e) refl
  | inr n ↦
      let is : List ℕ → Bool = list_all (λ b. not (b == c)) in
      let kept : before c (b ∷ s) ≡ b ∷ before c s = rw (ne_eqb b c n) refl in
      ap is kept ∙ ap (λ t. not t && is (before c s)) (ne_eqb b c n) ∙ none_before c s
]

-- what the parts of a text of a first roll are
pub opening_parts : (text dice name rest : List ℕ) (own a b : ℕ) → SaysOpening text dice name
    → text ≡ own ∷ (a ∷ (b ∷ rest))
    → (own ≡ digit_of (slice_index dice 0)) × (before 32 rest ≡ name)
    × (after 32 rest ≡ Some (codes "rolled " ++ (digit_of (slice_index dice 1) ∷ [])))
opening_parts text dice name rest own a b says is =
    let other = digit_of (slice_index dice 1) in
    let same : own ∷ (a ∷ (b ∷ rest)) ≡ opening_words dice name = sym is ∙ says.text_is in
    let left : rest ≡ name ++ (32 ∷ (codes "rolled " ++ (other ∷ []))) = ap (drop 3) same in
    let first : own ≡ digit_of (slice_index dice 0) = ap (λ l. get_or l 0 0) same in
    let cut = cut_off 32 name (32 ∷ (codes "rolled " ++ (other ∷ []))) says.one_word refl in
    (first, ap (before 32) left ∙ cut.0, ap (after 32) left ∙ cut.1)

-- the first three bytes of a text, and what follows them
pub three_first : (text : List ℕ) (a b c : ℕ) → 3 ≤ length text → get_or text 0 0 ≡ a → get_or text 1 0 ≡ b
    → get_or text 2 0 ≡ c → text ≡ a ∷ (b ∷ (c ∷ take (length text - 3) (drop 3 text)))
three_first [] a b c long first second third = absurd (omega arith)
three_first (x ∷ []) a b c long first second third = absurd (omega arith)
three_first (x ∷ (y ∷ [])) a b c long first second third = absurd (omega arith)
three_first (x ∷ (y ∷ (z ∷ s))) a b c long first second third =
    ap (λ n. n ∷ (y ∷ (z ∷ s))) first
    ∙ ap (λ n. a ∷ (n ∷ (z ∷ s))) second
    ∙ ap (λ n. a ∷ (b ∷ (n ∷ s))) third
    ∙ ap (λ l. a ∷ (b ∷ (c ∷ l)))
    (sym (take_all (length (x ∷ (y ∷ (z ∷ s))) - 3) s (omega (arith, length-drop 3 (x ∷ (y ∷ (z ∷ s)))))))

-- a text of one byte
pub one_byte : (text : List ℕ) (a : ℕ) → 1 ≤ length text → length text < 2 → get_or text 0 0 ≡ a → text ≡ a ∷ []
one_byte [] a long short is = absurd (omega arith)
one_byte (x ∷ []) a long short is = ap (λ n. n ∷ []) is
one_byte (x ∷ (y ∷ s)) a long short is = absurd (omega arith)

-- a text whose parts are those of a first roll says it
pub opening_said : (text rest rolled tail : List ℕ) (own other : ℕ) → IsDie own → IsDie other
    → text ≡ digit_of own ∷ (44 ∷ (32 ∷ rest)) → after 32 rest ≡ Some rolled
    → rolled ≡ codes "rolled " ++ tail → tail ≡ digit_of other ∷ []
    → SaysOpening text (own ∷ (other ∷ [])) (before 32 rest)
opening_said text rest rolled tail own other die other_die is later says last = record {
  thrown = (die, other_die);
  one_word = none_before 32 rest;
  text_is = is ∙ ap (λ l. digit_of own ∷ (44 ∷ (32 ∷ l)))
      (before_and_from 32 rest ∙ ap (λ o. before 32 rest ++ from 32 o) later
      ∙ ap (λ l. before 32 rest ++ 32 ∷ l) (says ∙ ap (λ l. codes "rolled " ++ l) last));
}

-- what follows the first space of a text of a first roll, whatever it is called
pub opening_rest : (text dice name rest rolled : List ℕ) (own : ℕ) → SaysOpening text dice name
    → text ≡ own ∷ (44 ∷ (32 ∷ rest)) → after 32 rest ≡ Some rolled
    → rolled ≡ codes "rolled " ++ (digit_of (slice_index dice 1) ∷ [])
opening_rest text dice name rest rolled own says is later =
    something_is_it (opening_parts text dice name rest own 44 32 says is).2 later

-- and what follows `rolled` there
pub opening_last : (text dice name rest rolled tail : List ℕ) (own : ℕ) → SaysOpening text dice name
    → text ≡ own ∷ (44 ∷ (32 ∷ rest)) → after 32 rest ≡ Some rolled → rolled ≡ codes "rolled " ++ tail
    → tail ≡ digit_of (slice_index dice 1) ∷ []
opening_last text dice name rest rolled tail own says is later cut =
    append_cancel_left (codes "rolled ") tail (digit_of (slice_index dice 1) ∷ [])
    (sym cut ∙ opening_rest text dice name rest rolled own says is later)
