-- Equal texts have equal parts, if the parts can be known from each other.
use Rattle.std.proofs.Common.{◌≡◌, ◌<◌, ◌+◌, ◌%◌, ◌^◌, ◌==◌, ◌++◌, ℕ, Bool, true, not, List, [], ◌∷◌, refl, arith}
use Rattle.std.specs.Prelude.{decimal}
use Rattle.std.specs.List.{list_all}
use Rattle.std.proofs.lemmas.Fmt.{decimal_by_steps}
use Rattle.std.proofs.lemmas.List.Folds.{list_all-append}
use Rattle.fibs_picture.proofs.PictureLemmas.Reading.{and-left, and-right}

-- no byte of a text is c
abbrev pub lacks : ℕ → List ℕ → Bool
lacks c xs = list_all (λ x. not (x == c)) xs

-- two texts without a byte do not have it in a row
pub lacks-append : (c : ℕ) (xs ys : List ℕ) → lacks c xs ≡ true → lacks c ys ≡ true → lacks c (xs ++ ys) ≡ true
lacks-append c xs ys h k = rw (list_all-append (λ x. not (x == c)) xs ys, h, k) refl

-- a byte is not found to differ from itself
not-self : (c : ℕ) → not (c == c) ≡ true → ⊥
not-self c e = grind (arith)

-- two texts up to their first c are equal in their parts
pub ends-tell : (c : ℕ) (a b x y : List ℕ) → lacks c a ≡ true → lacks c b ≡ true → a ++ (c ∷ x) ≡ b ++ (c ∷ y)
    → (a ≡ b) × (x ≡ y)
ends-tell c [] [] x y h k e = (refl, cc)
ends-tell c [] (d ∷ b) x y h k e =
    let same : d ≡ c = cc in
    absurd (not-self c (rw same at (and-left (not (d == c)) (lacks c b) k)))
ends-tell c (d ∷ a) [] x y h k e =
    let same : d ≡ c = cc in
    absurd (not-self c (rw same at (and-left (not (d == c)) (lacks c a) h)))
ends-tell c (d ∷ a) (f ∷ b) x y h k e =
    let rest : a ++ (c ∷ x) ≡ b ++ (c ∷ y) = cc in
    let t = ends-tell c a b x y (and-right (not (d == c)) (lacks c a) h) (and-right (not (f == c))
    (lacks c b) k) rest in
    let first : d ≡ f = cc in
    let front : a ≡ b = t.0 in
    ((cc), t.1)

-- ---- numbers

-- a digit is no byte below the digits
digit-lacks : (c n : ℕ) → (c < 48) → n < 10 → not ((48 + n) == c) ≡ true
digit-lacks c n h k = grind (arith)

-- a decimal has no byte below the digits
pub decimal-lacks : (c n : ℕ) → c < 48 → n < 2 ^ 64 → lacks c (decimal n) ≡ true
decimal-lacks c n small h =
    decimal_by_steps (λ n ds. lacks c ds ≡ true)
    (λ n k. rw (digit-lacks c n small k) refl)
    (λ n ds k e. lacks-append c ds ((48 + n % 10) ∷ []) e (rw (digit-lacks c (n % 10) small (omega arith)) refl))
    n h
