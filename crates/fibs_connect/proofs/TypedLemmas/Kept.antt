-- What is kept of a line whose bytes come in parts.
use Rattle.std.proofs.Common.{◌≡◌, ℕ, zero, suc, ◌<◌, ◌-◌, Bool, true, false, eqb, cond, List, [], ◌∷◌, ◌++◌, length, length-take, take, get_or, refl, ap, ◌∙◌, sym, arith, inl, inr}
use Rattle.std.proofs.lemmas.Bool.{cases_lt}
use Rattle.std.proofs.lemmas.List.{take_all, take-take}
use Rattle.std.specs.Str.Lines.{strip_carriage_return}

-- a part more is kept as far as there is room
pub kept-more : (n : ℕ) (part run : List ℕ) → take n part ++ take (n - length (take n part)) run ≡ take n (part ++ run)
kept-more zero part run = refl
kept-more (suc n) [] run = let all : suc n - 0 ≡ suc n = omega arith in ap (λ (k : ℕ). take k run) all
kept-more (suc n) (b ∷ part) run =
    let less : suc n - length (b ∷ take n part) ≡ n - length (take n part) = omega arith in
    ap (λ (k : ℕ). b ∷ (take n part ++ take k run)) less ∙ ap (λ (l : List ℕ). b ∷ l) (kept-more n part run)

-- a CR at the end of a longer line is not among the first bytes
stripped : (n : ℕ) (l : List ℕ) (t : Bool) → n < length l → take n (cond t (take (length l - 1) l) l) ≡ take n l
stripped n l true h = take-take n (length l - 1) l (omega arith)
stripped n l false h = refl

-- one byte more than is kept is enough to know what is kept without a CR
pub kept-line : (n : ℕ) (part : List ℕ) → take n (strip_carriage_return (take (suc n) part))
    ≡ take n (strip_carriage_return part)
kept-line n part = elim (cases_lt (length part) (suc (suc n))) [
  | inl h ↦ ap (λ (l : List ℕ). take n (strip_carriage_return l)) (take_all (suc n) part (omega arith))
  | inr h ↦ stripped n (take (suc n) part) (eqb (get_or (take (suc n) part) (length (take (suc n) part) - 1) 0) 13)
      (omega (arith, length-take (suc n) part))
      ∙ take-take n (suc n) part (omega arith)
      ∙ sym (stripped n part (eqb (get_or part (length part - 1) 0) 13) (omega arith))
]

-- a line without a CR at its end is a front of it
stripped_front : (l : List ℕ) (t : Bool)
    → take (length (cond t (take (length l - 1) l) l)) l ≡ cond t (take (length l - 1) l) l
stripped_front l true =
    let short : length (take (length l - 1) l) ≡ length l - 1 = omega (arith, length-take (length l - 1) l) in
    ap (λ (k : ℕ). take k l) short
stripped_front l false = take_all (length l) l (omega arith)

-- a line without its CR is a front of it
pub front_stays : (l : List ℕ) → take (length (strip_carriage_return l)) l ≡ strip_carriage_return l
front_stays l = stripped_front l (eqb (get_or l (length l - 1) 0) 13)
