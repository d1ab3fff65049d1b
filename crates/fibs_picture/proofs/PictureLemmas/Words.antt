-- A row of words tells its words: each is of printed bytes, and what comes between is not.
use Rattle.std.proofs.Common.{◌≡◌, ◌<◌, ◌≤◌, ◌+◌, ◌%◌, ◌^◌, ◌&&◌, ◌++◌, ℕ, zero, suc, Bool, true, false, not, List, [], ◌∷◌, length, take, refl, sym, ◌∙◌, arith, append_assoc, nat_lt, nat_le}
use Rattle.std.specs.Prelude.{ℤ, pos, negsuc, decimal}
use Rattle.std.specs.Fmt.{signed_decimal}
use Rattle.std.specs.Int.{is_in_range}
use Rattle.std.specs.List.{list_all}
use Rattle.std.proofs.lemmas.Bool.{and_parts, false≢true}
use Rattle.std.proofs.lemmas.Bool.Decides.{nat_tests}
use Rattle.std.proofs.lemmas.Fmt.{decimal_by_steps}
use Rattle.std.proofs.lemmas.Int.{ints}
use Rattle.std.proofs.lemmas.List.Folds.{list_all-append}
use Rattle.fibs_fields.specs.Name.{is_name, is_name_byte}
use Rattle.fibs_picture.specs.Notes.{spaced}
use Rattle.fibs_picture.proofs.PictureLemmas.Ranges.{Within}

-- each byte of a text is printed, and no space
abbrev pub solid : List ℕ → Bool
solid text = list_all (is_in_range 33 126) text

-- a byte that is printed is no space, and no line end
not-solid : (c : ℕ) → c ≤ 32 → is_in_range 33 126 c ≡ true → ⊥
not-solid c h e = grind (arith, nat_tests)

-- two solid texts up to what follows them are equal in their parts
pub solid-tell : (a b x y : List ℕ) (c d : ℕ) → solid a ≡ true → solid b ≡ true → c ≤ 32 → d ≤ 32
    → a ++ (c ∷ x) ≡ b ++ (d ∷ y) → (a ≡ b) × (c ≡ d) × (x ≡ y)
solid-tell [] [] x y c d h k m n e = (refl, cc, cc)
solid-tell [] (f ∷ b) x y c d h k m n e =
    let same : f ≡ c = cc in
    absurd (not-solid c m (rw same at (and_parts (is_in_range 33 126 f) (solid b) k).0))
solid-tell (f ∷ a) [] x y c d h k m n e =
    let same : f ≡ d = cc in
    absurd (not-solid d n (rw same at (and_parts (is_in_range 33 126 f) (solid a) h).0))
solid-tell (f ∷ a) (g ∷ b) x y c d h k m n e =
    let rest : a ++ (c ∷ x) ≡ b ++ (d ∷ y) = cc in
    let t = solid-tell a b x y c d (and_parts (is_in_range 33 126 f) (solid a) h).1 (and_parts (is_in_range 33 126 g)
    (solid b) k).1 m n rest in
    let first : f ≡ g = cc in
    let front : a ≡ b = t.0 in
    ((cc), t.1, t.2)

-- a row has a word, and each is solid
abbrev pub is_row : List (List ℕ) → Bool
is_row [] = false
is_row (w ∷ []) = solid w
is_row (w ∷ x ∷ ws) = solid w && is_row (x ∷ ws)

-- a space is no line end
space-end : ◌≡◌ {A = ℕ} 32 10 → ⊥
space-end e = omega (arith, e)

-- rows with what follows are equal in their words
pub words-tell : (ws vs : List (List ℕ)) (u v : List ℕ) → is_row ws ≡ true → is_row vs ≡ true
    → spaced ws ++ (10 ∷ u) ≡ spaced vs ++ (10 ∷ v) → (ws ≡ vs) × (u ≡ v)
words-tell [] vs u v h k e = absurd (false≢true h)
words-tell (w ∷ []) [] u v h k e = absurd (false≢true k)
words-tell (w ∷ x ∷ ws) [] u v h k e = absurd (false≢true k)
words-tell (w ∷ []) (y ∷ []) u v h k e =
    let t = solid-tell w y u v 10 10 h k (omega arith) (omega arith) e in
    let first : w ≡ y = t.0 in
    ((cc), t.2)
words-tell (w ∷ []) (y ∷ z ∷ vs) u v h k e =
    let t = solid-tell w y u (spaced (z ∷ vs) ++ (10 ∷ v)) 10 32 h (and_parts (solid y) (is_row (z ∷ vs)) k).0
    (omega arith) (omega arith) (e ∙ append_assoc y (32 ∷ spaced (z ∷ vs)) (10 ∷ v)) in
    absurd (space-end (sym t.1))
words-tell (w ∷ x ∷ ws) (y ∷ []) u v h k e =
    let t = solid-tell w y (spaced (x ∷ ws) ++ (10 ∷ u)) v 32 10 (and_parts (solid w) (is_row (x ∷ ws)) h).0 k
    (omega arith) (omega arith) (sym (append_assoc w (32 ∷ spaced (x ∷ ws)) (10 ∷ u)) ∙ e) in
    absurd (space-end t.1)
words-tell (w ∷ x ∷ ws) (y ∷ z ∷ vs) u v h k e =
    let t = solid-tell w y (spaced (x ∷ ws) ++ (10 ∷ u)) (spaced (z ∷ vs) ++ (10 ∷ v)) 32 32
    (and_parts (solid w) (is_row (x ∷ ws)) h).0 (and_parts (solid y) (is_row (z ∷ vs)) k).0
    (omega arith) (omega arith)
    (sym (append_assoc w (32 ∷ spaced (x ∷ ws)) (10 ∷ u)) ∙ e ∙ append_assoc y (32 ∷ spaced (z ∷ vs)) (10 ∷ v)) in
    let s = words-tell (x ∷ ws) (z ∷ vs) u v (and_parts (solid w) (is_row (x ∷ ws)) h).1
    (and_parts (solid y) (is_row (z ∷ vs)) k).1 t.2 in
    let first : w ≡ y = t.0 in
    let others : x ∷ ws ≡ z ∷ vs = s.0 in
    ((cc), s.1)

-- ---- what is solid

-- two solid texts in a row
pub solid-append : (xs ys : List ℕ) → solid xs ≡ true → solid ys ≡ true → solid (xs ++ ys) ≡ true
solid-append xs ys h k = rw (list_all-append (is_in_range 33 126) xs ys, h, k) refl

-- a front of one
pub solid-take : (n : ℕ) (xs : List ℕ) → solid xs ≡ true → solid (take n xs) ≡ true
solid-take zero xs h = refl
solid-take (suc n) [] h = refl
solid-take (suc n) (x ∷ xs) h =
    let parts = and_parts (is_in_range 33 126 x) (solid xs) h in
    rw parts.0 (solid-take n xs parts.1)

-- a byte of a name is
name-byte : (x : ℕ) → is_name_byte x ≡ true → is_in_range 33 126 x ≡ true
name-byte x h = grind (arith, nat_tests)

-- what follows from a test of each element holds of each
pub all-mono : (p q : ℕ → Bool) → ((x : ℕ) → p x ≡ true → q x ≡ true) → (xs : List ℕ) → list_all p xs ≡ true
    → list_all q xs ≡ true
all-mono p q f [] h = refl
all-mono p q f (x ∷ xs) h =
    let parts = and_parts (p x) (list_all p xs) h in
    rw (f x parts.0) (all-mono p q f xs parts.1)

-- a name is
pub name-solid : (name : List ℕ) → is_name name ≡ true → solid name ≡ true
name-solid name k =
    let size = nat_lt 0 (length name) && nat_le (length name) 64 in
    all-mono is_name_byte (is_in_range 33 126) name-byte name (and_parts size (list_all is_name_byte name) k).1

-- a digit is
pub digit-solid : (n : ℕ) → n < 10 → is_in_range 33 126 (48 + n) ≡ true
digit-solid n few = grind (arith, nat_tests)

-- a number is
pub decimal-solid : (n : ℕ) → n < 2 ^ 64 → solid (decimal n) ≡ true
decimal-solid n h =
    decimal_by_steps (λ n ds. solid ds ≡ true)
    (λ n k. rw (digit-solid n k) refl)
    (λ n ds k e. solid-append ds ((48 + n % 10) ∷ []) e (rw (digit-solid (n % 10) (omega arith)) refl))
    n h

-- a number of a board
pub number-solid : (m : ℕ) (z : ℤ) → m < 2 ^ 32 → Within m z → solid (signed_decimal z) ≡ true
number-solid m (pos n) few h = decimal-solid n (omega (arith, ints, h.1))
number-solid m (negsuc n) few h = absurd (omega (arith, ints, h.0))
