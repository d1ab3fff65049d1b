-- How rows are padded, and which matches lines say.
use Rattle.std.proofs.Common.{◌≡◌, ◌++◌, ◌+◌, ◌∙◌, ℕ, zero, suc, Bool, true, false, List, [], ◌∷◌, Bor, ap, arith, map, refl, replicate, inl, inr}
use Rattle.fibs_wording.specs.MatchRows.{AreSaid, IsAskedFor, SaysMatch}
use Rattle.fibs_wording.specs.declared.matches.PlayedMatch.{PlayedMatch}

-- one space more
pub one_more_space : (n : ℕ) → replicate {A = ℕ} (n + 1) 32 ≡ replicate {A = ℕ} n 32 ++ 32 ∷ []
one_more_space zero = refl
one_more_space (suc n) =
    let more : suc n + 1 ≡ suc (n + 1) = omega arith in
    ap (λ k. replicate {A = ℕ} k 32) more ∙ ap (λ l. 32 ∷ l) (one_more_space n)

-- a test that is never true is false
pub never_true : (b : Bool) → (b ≡ true → ⊥) → b ≡ false
never_true true never = absurd (never refl)
never_true false never = refl

-- lines that were lent, and one more
pub lent_more : (lines : List (Bor (List ℕ))) (line : Bor (List ℕ))
    → map (λ (l : Bor (List ℕ)). l.now) (lines ++ line ∷ []) ≡ map (λ (l : Bor (List ℕ)). l.now) lines ++ line.now ∷ []
lent_more [] line = refl
lent_more (l ∷ lines) line = ap (λ ls. l.now ∷ ls) (lent_more lines line)

-- a line more may say none
pub line_more : (name : List ℕ) (lines : List (List ℕ)) (found : List PlayedMatch) (line : List ℕ)
    → AreSaid name lines found → AreSaid name (lines ++ line ∷ []) found
line_more name lines [] line said = tt
line_more name [] (m ∷ more) line said = absurd said
line_more name (l ∷ lines) (m ∷ more) line (inl h) = inl (h.0, h.1, line_more name lines more line h.2)
line_more name (l ∷ lines) (m ∷ more) line (inr h) = inr (line_more name lines (m ∷ more) line h)

-- or a match that is asked for
pub match_more : (name : List ℕ) (lines : List (List ℕ)) (found : List PlayedMatch) (line : List ℕ) (m : PlayedMatch)
    → SaysMatch line m → IsAskedFor name m → AreSaid name lines found
    → AreSaid name (lines ++ line ∷ []) (found ++ m ∷ [])
match_more name [] [] line m says asked said = inl (says, asked, tt)
match_more name [] (x ∷ more) line m says asked said = absurd said
match_more name (l ∷ lines) [] line m says asked said = inr (match_more name lines [] line m says asked tt)
match_more name (l ∷ lines) (x ∷ more) line m says asked (inl h) =
    inl (h.0, h.1, match_more name lines more line m says asked h.2)
match_more name (l ∷ lines) (x ∷ more) line m says asked (inr h) =
    inr (match_more name lines (x ∷ more) line m says asked h)
