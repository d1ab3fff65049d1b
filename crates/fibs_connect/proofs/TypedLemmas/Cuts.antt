-- A text is cut at its first byte of a kind, however it comes.
use Rattle.std.proofs.Common.{◌≡◌, ℕ, zero, suc, ◌+◌, ◌-◌, ◌≤◌, Bool, true, false, eqb, cond, List, [], ◌∷◌, ◌++◌, length, length-take, take, drop, Some, None, refl, ap, sym, ◌∙◌, arith}
use Rattle.std.proofs.lemmas.List.{drop-drop}
use Rattle.fibs_fields.specs.Split.{before, after}
use Rattle.fibs_fields.proofs.FieldLemmas.Options.{some_none, option_same}

-- if there is none, all is before it
pub before-all : (c : ℕ) (s : List ℕ) → after c s ≡ None → before c s ≡ s
before-all c [] e = refl
before-all c (b ∷ s) e = go (eqb b c) (before-all c s) e
  where
    go : (t : Bool) → (after c s ≡ None → before c s ≡ s) → cond t (Some s) (after c s) ≡ None
        → cond t [] (b ∷ before c s) ≡ b ∷ s
    go true ih h = absurd (some_none s h)
    go false ih h = ap (λ (l : List ℕ). b ∷ l) (ih h)

-- what is after the first is all but what is before it, and that byte
pub after-drop : (c : ℕ) (s rest : List ℕ) → after c s ≡ Some rest → drop (suc (length (before c s))) s ≡ rest
after-drop c [] rest e = absurd (some_none rest (sym e))
after-drop c (b ∷ s) rest e = go (eqb b c) (after-drop c s rest) e
  where
    go : (t : Bool) → (after c s ≡ Some rest → drop (suc (length (before c s))) s ≡ rest)
        → cond t (Some s) (after c s) ≡ Some rest
        → drop (suc (length (cond t [] (b ∷ before c s)))) (b ∷ s) ≡ rest
    go true ih h = option_same s rest h
    go false ih h = ih h

-- the byte, and what is on its sides, make up the text
pub cut-length : (c : ℕ) (s rest : List ℕ) → after c s ≡ Some rest → length (before c s) + 1 + length rest ≡ length s
cut-length c [] rest e = absurd (some_none rest (sym e))
cut-length c (b ∷ s) rest e = go (eqb b c) (cut-length c s rest) e
  where
    go : (t : Bool) → (after c s ≡ Some rest → length (before c s) + 1 + length rest ≡ length s)
        → cond t (Some s) (after c s) ≡ Some rest
        → length (cond t [] (b ∷ before c s)) + 1 + length rest ≡ length (b ∷ s)
    go true ih h = let same = ap (λ (l : List ℕ). length l) (option_same s rest h) in omega (arith, same)
    go false ih h = let same = ih h in omega (arith, same)

-- after a text without one, more is cut as it would be alone
pub before-more : (c : ℕ) (part s : List ℕ) → after c part ≡ None → before c (part ++ s) ≡ part ++ before c s
before-more c [] s e = refl
before-more c (b ∷ part) s e = go (eqb b c) (before-more c part s) e
  where
    go : (t : Bool) → (after c part ≡ None → before c (part ++ s) ≡ part ++ before c s)
        → cond t (Some part) (after c part) ≡ None
        → cond t [] (b ∷ before c (part ++ s)) ≡ b ∷ (part ++ before c s)
    go true ih h = absurd (some_none part h)
    go false ih h = ap (λ (l : List ℕ). b ∷ l) (ih h)

-- after a text without one, what follows the first byte of more is what follows it alone
pub after-more : (c : ℕ) (part s : List ℕ) → after c part ≡ None → after c (part ++ s) ≡ after c s
after-more c [] s e = refl
after-more c (b ∷ part) s e = go (eqb b c) (after-more c part s) e
  where
    go : (t : Bool) → (after c part ≡ None → after c (part ++ s) ≡ after c s) → cond t (Some part) (after c part) ≡ None
        → cond t (Some (part ++ s)) (after c (part ++ s)) ≡ after c s
    go true ih h = absurd (some_none part h)
    go false ih h = ih h

-- before a text that has one, more changes nothing but what follows
pub after-front : (c : ℕ) (s more rest : List ℕ) → after c s ≡ Some rest → after c (s ++ more) ≡ Some (rest ++ more)
after-front c [] more rest e = absurd (some_none rest (sym e))
after-front c (b ∷ s) more rest e = go (eqb b c) (after-front c s more rest) e
  where
    go : (t : Bool) → (after c s ≡ Some rest → after c (s ++ more) ≡ Some (rest ++ more))
        → cond t (Some s) (after c s) ≡ Some rest
        → cond t (Some (s ++ more)) (after c (s ++ more)) ≡ Some (rest ++ more)
    go true ih h = ap (λ (l : List ℕ). Some (l ++ more)) (option_same s rest h)
    go false ih h = ih h

-- before a text that has one, more leaves what is in front of it
pub before-front : (c : ℕ) (s more rest : List ℕ) → after c s ≡ Some rest → before c (s ++ more) ≡ before c s
before-front c [] more rest e = absurd (some_none rest (sym e))
before-front c (b ∷ s) more rest e = go (eqb b c) (before-front c s more rest) e
  where
    go : (t : Bool) → (after c s ≡ Some rest → before c (s ++ more) ≡ before c s)
        → cond t (Some s) (after c s) ≡ Some rest
        → cond t [] (b ∷ before c (s ++ more)) ≡ cond t [] (b ∷ before c s)
    go true ih h = refl
    go false ih h = ap (λ (l : List ℕ). b ∷ l) (ih h)

-- a front of nothing is nothing
take-nil : (k : ℕ) → take {A = ℕ} k [] ≡ []
take-nil zero = refl
take-nil (suc k) = refl

-- what is left of a front is a front of what is left
drop-take : (n m : ℕ) (l : List ℕ) → drop n (take m l) ≡ take (m - n) (drop n l)
drop-take zero m l = let same : m - 0 ≡ m = omega arith in ap (λ (k : ℕ). take k l) (sym same)
drop-take (suc n) zero l = let none : 0 - suc n ≡ 0 = omega arith in ap (λ (k : ℕ). take k (drop (suc n) l)) (sym none)
drop-take (suc n) (suc m) [] = sym (take-nil (suc m - suc n))
drop-take (suc n) (suc m) (b ∷ l) =
    let less : suc m - suc n ≡ m - n = omega arith in
    drop-take n m l ∙ ap (λ (k : ℕ). take k (drop n l)) (sym less)

-- what waits in a buffer from t up to f, after so many bytes more
shift : (t f n : ℕ) (p : List ℕ) → take (f - (t + n)) (drop (t + n) p) ≡ drop n (take (f - t) (drop t p))
shift t f n p =
    let less : f - (t + n) ≡ f - t - n = omega arith in
    ap (λ (k : ℕ). take k (drop (t + n) p)) less ∙ ap (λ (l : List ℕ). take (f - t - n) l) (sym (drop-drop n t p))
    ∙ sym (drop-take n (f - t) (drop t p))

-- the byte at which what waits is cut is passed
pub window-rest : (t f : ℕ) (p front rest : List ℕ) → front ≡ before 10 (take (f - t) (drop t p))
    → Some rest ≡ after 10 (take (f - t) (drop t p))
    → take (f - (t + (length front + 1))) (drop (t + (length front + 1)) p) ≡ rest
window-rest t f p front rest first then =
    let w : List ℕ = take (f - t) (drop t p) in
    let more : length front + 1 ≡ suc (length (before 10 w)) = let same =
    ap (λ (l : List ℕ). length l) first in omega (arith, same) in
    shift t f (length front + 1) p ∙ ap (λ (k : ℕ). drop k w) more ∙ after-drop 10 w rest (sym then)

-- the byte at which what waits is cut lies within it
pub window-fits : (t f : ℕ) (p front rest : List ℕ) → t ≤ f → front ≡ before 10 (take (f - t) (drop t p))
    → Some rest ≡ after 10 (take (f - t) (drop t p))
    → t + (length front + 1) ≤ f
window-fits t f p front rest low first then =
    let same = ap (λ (l : List ℕ). length l) first in
    let whole = cut-length 10 (take (f - t) (drop t p)) rest (sym then) in
    omega (arith, same, whole, length-take (f - t) (drop t p))

-- nothing waits in a buffer that was taken whole
pub take-none : (f : ℕ) (l : List ℕ) → take (f - f) l ≡ []
take-none f l = let none : f - f ≡ 0 = omega arith in ap (λ (k : ℕ). take k l) none
