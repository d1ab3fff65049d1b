-- Texts that are split at the first byte of a kind.
use Rattle.std.proofs.Common.{◌≡◌, ◌∙◌, ℕ, zero, suc, ◌+◌, ◌-◌, ◌<◌, Bool, true, not, eqb, List, [], ◌∷◌, ◌++◌, length, get_or, take, drop, Option, Some, None, refl, ap, sym, arith, inl, inr, add-one, length-drop, take_all}
use Rattle.std.specs.List.{list_all}
use Rattle.std.proofs.lemmas.Bool.{cases_eq, eq-eqb, ne_eqb, and_parts, not-true}
use Rattle.fibs_fields.specs.Split.{before, after}

-- the first such byte parts the text
pub split_at : (c : ℕ) (s : List ℕ) (k : ℕ) → k < length s → ((j : ℕ) → j < k → get_or s j 0 ≡ c → ⊥) → get_or s k 0 ≡ c
    → (take k s ≡ before c s) × (Some (drop (suc k) s) ≡ after c s)
split_at c [] k lt none is = absurd (omega arith)
split_at c (b ∷ s) zero lt none is = rw (eq-eqb b c is) (refl, refl)
split_at c (b ∷ s) (suc k) lt none is =
    let more = split_at c s k (omega arith) (λ (j : ℕ) (l : j < k). none (suc j) (omega arith)) is in
    rw (ne_eqb b c (none 0 (omega arith))) (ap (λ (t : List ℕ). b ∷ t) more.0, more.1)

-- the slice of what comes after it
pub rest_after : (text : List ℕ) (k : ℕ) → k < length text
    → Some (take (length text - (k + 1)) (drop (k + 1) text)) ≡ Some (drop (suc k) text)
rest_after text k within =
    let all = take_all (length text - (k + 1)) (drop (k + 1) text) (omega (arith, length-drop (k + 1) text)) in
    ap Some (all ∙ ap (λ (n : ℕ). drop n text) (add-one k))

-- without one all of the text is before it
pub split_none : (c : ℕ) (s : List ℕ) → ((j : ℕ) → j < length s → get_or s j 0 ≡ c → ⊥)
    → (s ≡ before c s) × (None ≡ after c s)
split_none c [] none = (refl, refl)
split_none c (b ∷ s) none =
    let more = split_none c s (λ (j : ℕ) (l : j < length s). none (suc j) (omega arith)) in
    rw (ne_eqb b c (none 0 (omega arith))) (ap (λ (t : List ℕ). b ∷ t) more.0, more.1)

-- what comes after c, with it
abbrev pub behind : ℕ → Option (List ℕ) → List ℕ
behind c None = []
behind c (Some s) = c ∷ s

-- what comes after the first byte
abbrev pub opened : List ℕ → Option (List ℕ)
opened [] = None
opened (b ∷ s) = Some s

-- a text is empty or begins with c
abbrev pub HeadIs : ℕ → List ℕ → Type 0
HeadIs c [] = Unit {0}
HeadIs c (b ∷ s) = b ≡ c

-- the two parts are the text
pub before-behind : (c : ℕ) (s : List ℕ) → before c s ++ behind c (after c s) ≡ s
before-behind c [] = refl
before-behind c (b ∷ s) = elim (cases_eq b c) [
  | inl e ↦ rw (eq-eqb b c e) (ap (λ (x : ℕ). x ∷ s) (sym e))
  | inr n ↦ rw (ne_eqb b c n) (ap (λ (t : List ℕ). b ∷ t) (before-behind c s))
]

-- no c is among the bytes
abbrev pub has_no : ℕ → List ℕ → Bool
has_no c s = list_all (λ b. not (eqb b c)) s

-- cut off at c, if none is before
pub cut_off : (c : ℕ) (w rest : List ℕ) → has_no c w ≡ true → HeadIs c rest
    → (before c (w ++ rest) ≡ w) × (after c (w ++ rest) ≡ opened rest)
cut_off c [] [] h head = (refl, refl)
cut_off c [] (b ∷ rest) h head = rw (eq-eqb b c head) (refl, refl)
cut_off c (b ∷ w) rest h head =
    let p = and_parts (not (eqb b c)) (has_no c w) h in
    let more = cut_off c w rest p.1 head in
    rw (not-true (eqb b c) p.0) (ap (λ (t : List ℕ). b ∷ t) more.0, more.1)

-- two texts, each empty or beginning with the byte
pub append_head : (c : ℕ) (t s : List ℕ) → HeadIs c t → HeadIs c s → HeadIs c (t ++ s)
append_head c [] s h k = k
append_head c (b ∷ t) s h k = h
