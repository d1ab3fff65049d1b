-- Spaces at the end of a line.
use Rattle.std.proofs.Common.{◌≡◌, ◌∙◌, ℕ, zero, suc, ◌+◌, ◌-◌, ◌<◌, ◌≤◌, ◌==◌, ◌⊎◌, true, false, List, [], ◌∷◌, ◌++◌, length, get_or, take, drop, replicate, refl, sym, ap, arith, ⊎_elim, length-append, length-drop}
use Rattle.bstr.specs.Bytes.{not_in, is_in}
use Rattle.std.proofs.lemmas.Bool.{cases_Bool, true_from_ne_false, false_from_ne_true, false≢true}
use Rattle.std.proofs.lemmas.Bool.Decides.{nat_tests}
use Rattle.std.proofs.lemmas.List.{get_or_append_left, get_or-replicate, length-replicate, take-append-drop, get_or-drop}
use Rattle.std.proofs.lemmas.List.Sums.{suffix_len_is}
use Rattle.std.proofs.Math.Seq.{take-append_seam, get_or-append_right}
use Rattle.fibs_fields.specs.Spaces.{without_spaces}

-- where the spaces at the end begin
pub without_spaces_at : (line : List ℕ) (n : ℕ) → n ≤ length line
    → ((k : ℕ) → n ≤ k → k < length line → (get_or line k 0 == 32) ≡ true)
    → (0 < n → (get_or line (n - 1) 0 == 32) ≡ false) → without_spaces line ≡ take n line
without_spaces_at line n within after before =
    let is = suffix_len_is (λ c. c == 32) line n 0 within after before in
    ap (λ m. take m line) (omega (arith, is))

-- a text that has only spaces
pub all_spaces : (xs : List ℕ) → ((k : ℕ) → k < length xs → (get_or xs k 0 == 32) ≡ true)
    → xs ≡ replicate (length xs) 32
all_spaces [] h = refl
all_spaces (x ∷ xs) h =
    let first : x ≡ 32 = (let here : (x == 32) ≡ true = h 0 (omega arith) in grind (arith, nat_tests)) in
    let rest : xs ≡ replicate (length xs) 32 = all_spaces xs (λ k within. h (suc k) (omega arith)) in
    (λ i. first i ∷ rest i)

-- what is after the place where the spaces at the end begin
pub spaces_at : (line : List ℕ) (n : ℕ) → n ≤ length line
    → ((k : ℕ) → n ≤ k → k < length line → (get_or line k 0 == 32) ≡ true) → line ≡ take n line
    ++ replicate (length line - n) 32
spaces_at line n within after =
    let rest : drop n line ≡ replicate (length (drop n line)) 32 =
    all_spaces (drop n line)
    (λ k inside. ap (λ c. c == 32) (get_or-drop n line k 0)
    ∙ after (n + k) (omega arith) (omega (arith, length-drop n line))) in
    let long : length (drop n line) ≡ length line - n = length-drop n line in
    sym (take-append-drop n line) ∙ ap (λ l. take n line ++ l) (rest ∙ ap (λ m. replicate m 32) long)

-- the test by which the last byte that is no space is found
pub space_from_not_in : (c : ℕ) → (not_in (32 ∷ []) c ≡ true → ⊥) → (c == 32) ≡ true
unfolding is_in
space_from_not_in c h = true_from_ne_false (c == 32) (λ other. h (rw other refl))

-- and the other way round
pub no_space_from_not_in : (c : ℕ) → not_in (32 ∷ []) c ≡ true → (c == 32) ≡ false
unfolding is_in
no_space_from_not_in c h = false_from_ne_true (c == 32) (λ space. false≢true (rw space at h))

-- where the spaces at the end of a line begin
record IsEnd (line : List ℕ) : Type 0 where
  place : ℕ
  within : place ≤ length line
  after : (k : ℕ) → place ≤ k → k < length line → (get_or line k 0 == 32) ≡ true
  before : 0 < place → (get_or line (place - 1) 0 == 32) ≡ false

-- each line has such a place
end_from : (line : List ℕ) (n : ℕ) → n ≤ length line
    → ((k : ℕ) → n ≤ k → k < length line → (get_or line k 0 == 32) ≡ true) → IsEnd line
end_from line zero within after =
    record { place = 0; within = within; after = after; before = λ some. absurd (omega arith) }
end_from line (suc n) within after = ⊎_elim
    (λ (space : (get_or line n 0 == 32) ≡ true). end_from line n (omega arith) (λ k low high. ⊎_elim
    (λ (more : suc n ≤ k). after k more high)
    (λ (same : n ≡ k). ap (λ j. get_or line j 0 == 32) (sym same) ∙ space)
    (at_least n k low)))
    (λ (other : (get_or line n 0 == 32) ≡ false).
    let there : suc n - 1 ≡ n = omega arith in
    record {
      place = suc n;
      within = within;
      after = after;
      before = λ some. ap (λ j. get_or line j 0 == 32) there
          ∙ other;
    })
    (cases_Bool (get_or line n 0 == 32))
  where
    at_least : (n k : ℕ) → n ≤ k → (suc n ≤ k) ⊎ (n ≡ k)
    at_least n k low = grind arith

-- what follows the text of a line is spaces
pub spaces_after : (line : List ℕ) → (n : ℕ) × (line ≡ without_spaces line ++ replicate n 32)
spaces_after line =
    let end = end_from line (length line) (omega arith) (λ k low high. absurd (omega arith)) in
    let text = without_spaces_at line end.place end.within end.after end.before in (
      length line - end.place,
      spaces_at line end.place end.within end.after
          ∙ ap (λ l. l ++ replicate (length line - end.place) 32) (sym text),
    )

-- the last byte is no space
abbrev pub EndsPlain : List ℕ → Type 0
EndsPlain text = 0 < length text → (get_or text (length text - 1) 0 == 32) ≡ false

-- a text ends as its last part does
pub ends_append : (x y : List ℕ) → 0 < length y → EndsPlain y → EndsPlain (x ++ y)
ends_append x y some h inside =
    let place : length (x ++ y) - 1 - length x ≡ length y - 1 = omega (arith, length-append x y) in
    ap (λ (c : ℕ). c == 32) (get_or-append_right x y (length (x ++ y) - 1) 0 (omega (arith, length-append x y)))
    ∙ (ap (λ (m : ℕ). get_or y m 0 == 32) place ∙ h some)

-- spaces after a text that ends in none are dropped, and nothing else
pub without_spaces-end : (text : List ℕ) (n : ℕ) → EndsPlain text → without_spaces (text ++ replicate n 32) ≡ text
without_spaces-end text n h =
    without_spaces_at (text ++ replicate n 32) (length text) (omega (arith, length-append text (replicate n 32)))
    (λ k after within.
    let inside : k - length text < n =
    omega (arith, length-append text (replicate n 32), length-replicate {A = ℕ} n 32) in
    ap (λ (c : ℕ). c == 32)
    (get_or-append_right text (replicate n 32) k 0 after ∙ get_or-replicate n (k - length text) 32 0 inside))
    (λ some.
    let last : length text - 1 < length text = omega arith in
    ap (λ (c : ℕ). c == 32) (get_or_append_left text (replicate n 32) 0 (length text - 1) last) ∙ h some)
    ∙ take-append_seam text (replicate n 32)
