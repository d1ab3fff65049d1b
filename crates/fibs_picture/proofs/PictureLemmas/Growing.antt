-- How a row grows by one column.
use Rattle.std.proofs.Common.{◌≡◌, ◌+◌, ◌++◌, ℕ, zero, suc, List, [], ◌∷◌, refl, sym, ◌∙◌, ap, arith, append-nil, append_assoc}
use Rattle.std.specs.List.{flat_map, range_with_len}
use Rattle.std.proofs.lemmas.List.Concat.{flat_map-append}

-- some numbers and the next one
range-more : (a n j : ℕ) → a + n ≡ j → range_with_len a (n + 1) ≡ range_with_len a n ++ j ∷ []
range-more a zero j e = let same : a ≡ j = omega (arith, e) in rw same refl
range-more a (suc n) j e =
    let next : suc n + 1 ≡ suc (n + 1) = omega arith in
    rw next (ap (λ xs. a ∷ xs) (range-more (a + 1) n j (omega (arith, e))))

-- columns so far, and one more
pub columns-more : (f : ℕ → List ℕ) (n : ℕ)
    → flat_map f (range_with_len 0 (n + 1)) ≡ flat_map f (range_with_len 0 n) ++ f n
columns-more f n =
    ap (flat_map f) (range-more 0 n n (omega arith))
    ∙ flat_map-append f (range_with_len 0 n) (n ∷ [])
    ∙ ap (λ t. flat_map f (range_with_len 0 n) ++ t) (append-nil (f n))

-- written after what was there
pub columns-written : (f : ℕ → List ℕ) (n : ℕ) (a b c : List ℕ) → b ≡ a ++ flat_map f (range_with_len 0 n)
    → c ≡ b ++ f n → c ≡ a ++ flat_map f (range_with_len 0 (n + 1))
columns-written f n a b c before here =
    here ∙ ap (λ t. t ++ f n) before ∙ append_assoc a (flat_map f (range_with_len 0 n)) (f n)
    ∙ ap (λ t. a ++ t) (sym (columns-more f n))
