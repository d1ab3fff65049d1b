-- Two functions over a range of numbers.
use Rattle.std.proofs.Common.{suc, refl, List, length, get_or, ◌≡◌, ℕ, ◌+◌, ◌-◌, ◌<◌, ◌≤◌, ◌++◌, ◌∷◌, [], sym, ap, ◌∙◌, arith}
use Rattle.std.specs.Prelude.{ℤ, pos, map}
use Rattle.std.specs.List.{range_with_len}
use Rattle.std.proofs.lemmas.List.FromFn.{get_or-map-range_with_len, map-range_with_len_more}

-- if they agree on the range, they agree on a number of it
pub agree_at : (f g : ℕ → ℤ) (first long n : ℕ) → first ≤ n → n < first + long
    → map f (range_with_len first long) ≡ map g (range_with_len first long) → f n ≡ g n
agree_at f g first long n low high same =
    let at = λ (h : ℕ → ℤ). get_or-map-range_with_len h first long (n - first) n (pos 0) (omega arith) (omega arith) in
    sym (at f) ∙ ap (λ xs. get_or xs (n - first) (pos 0)) same ∙ at g

-- one number more
pub agree_more : (f g : ℕ → ℤ) (first n : ℕ) → first ≤ n → f n ≡ g n
    → map f (range_with_len first (n - first)) ≡ map g (range_with_len first (n - first))
    → map f (range_with_len first (n + 1 - first)) ≡ map g (range_with_len first (n + 1 - first))
agree_more f g first n low here same =
    let long : n + 1 - first ≡ n - first + 1 = omega arith in
    let more = λ (h : ℕ → ℤ). ap (λ k. map h (range_with_len first k)) long
    ∙ map-range_with_len_more h first (n - first) n (omega arith) in
    let joined : map f (range_with_len first (n - first)) ++ f n ∷ [] ≡ map g (range_with_len first (n - first))
    ++ g n ∷ [] = cc in
    more f ∙ joined ∙ sym (more g)

-- a list that has at each place what a function gives from a number on
pub filled_from : (f : ℕ → ℕ) (first : ℕ) (xs : List ℕ) → ((k : ℕ) → k < length xs → get_or xs k 0 ≡ f (first + k))
    → xs ≡ map f (range_with_len first (length xs))
filled_from f first [] h = refl
filled_from f first (x ∷ xs) h =
    let head : x ≡ f first = h 0 (omega arith) ∙ ap f (omega arith) in
    let tail = filled_from f (first + 1) xs (λ k within. h (suc k) (omega arith) ∙ ap f (omega arith)) in
    cc
