-- Equal rows have equal columns.
use Rattle.std.proofs.Common.{◌≡◌, ◌<◌, ◌≤◌, ◌+◌, ◌++◌, ℕ, zero, suc, List, [], ◌∷◌, length, map, refl, sym, ◌∙◌, ap, arith, inl, inr}
use Rattle.std.specs.Prelude.{slice_index}
use Rattle.std.specs.List.{flat_map, range_with_len}
use Rattle.std.proofs.Math.Nat.{eq-or-lt_of_le}
use Rattle.std.proofs.lemmas.List.{length-append}

-- two texts whose fronts have one length are equal in their parts
pub parts-tell : (a b x y : List ℕ) → length a ≡ length b → a ++ x ≡ b ++ y → (a ≡ b) × (x ≡ y)
parts-tell [] [] x y h e = (refl, e)
parts-tell [] (d ∷ b) x y h e = absurd (omega arith)
parts-tell (c ∷ a) [] x y h e = absurd (omega arith)
parts-tell (c ∷ a) (d ∷ b) x y h e =
    let rest : a ++ x ≡ b ++ y = cc in
    let same_length : length a ≡ length b = omega arith in
    let t = parts-tell a b x y same_length rest in
    let first : c ≡ d = cc in
    let front : a ≡ b = t.0 in
    ((cc), t.1)

-- columns of one width make rows of one width
pub rows-wide : (f g : ℕ → List ℕ) → ((k : ℕ) → length (f k) ≡ length (g k)) → (ks : List ℕ)
    → length (flat_map f ks) ≡ length (flat_map g ks)
rows-wide f g h [] = refl
rows-wide f g h (k ∷ ks) =
    let here = h k in let rest = rows-wide f g h ks in
    omega (arith, here, rest, length-append (f k) (flat_map f ks), length-append (g k) (flat_map g ks))

-- equal rows of such columns have equal columns
pub columns-same : (f g : ℕ → List ℕ) → ((k : ℕ) → length (f k) ≡ length (g k)) → (start n : ℕ)
    → flat_map f (range_with_len start n) ≡ flat_map g (range_with_len start n)
    → (k : ℕ) → start ≤ k → k < start + n → f k ≡ g k
columns-same f g h start zero e k low high = absurd (omega (arith, low, high))
columns-same f g h start (suc n) e k low high =
    let t = parts-tell (f start) (g start) _ _ (h start) e in
    elim (eq-or-lt_of_le low) [
      | inl same ↦ ap f (sym same) ∙ t.0 ∙ ap g same
      | inr less ↦ columns-same f g h (start + 1) n t.1 k (omega (arith, less)) (omega (arith, high))
    ]

-- the k-th of a row of values
pub nth-of : (f : ℕ → ℕ) (start n k : ℕ) (rest : List ℕ) → k < n
    → slice_index (map f (range_with_len start n) ++ rest) k ≡ f (start + k)
nth-of f start zero k rest h = absurd (omega (arith, h))
nth-of f start (suc n) zero rest h = ap f (omega arith)
nth-of f start (suc n) (suc k) rest h = nth-of f (start + 1) n k rest (omega (arith, h)) ∙ ap f (omega arith)

-- values that are the same, one by one
pub map-same : (f g : ℕ → ℕ) (start n : ℕ) → ((k : ℕ) → start ≤ k → k < start + n → f k ≡ g k)
    → map f (range_with_len start n) ≡ map g (range_with_len start n)
map-same f g start zero h = refl
map-same f g start (suc n) h =
    let first : f start ≡ g start = h start (omega arith) (omega arith) in
    let rest = map-same f g (start + 1) n (λ k low high. h k (omega (arith, low)) (omega (arith, high))) in
    rw (first, rest) refl
