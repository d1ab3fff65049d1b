-- Orders of a part of the dice held are fronts of the dice in one of their two orders.
use Rattle.std.proofs.lemmas.Bool.{cases_eq}
use Rattle.std.proofs.lemmas.Bool.Decides.{nat_tests}
use Rattle.std.proofs.Common.{◌≢◌, ◌≡◌, ℕ, suc, zero, ◌<◌, ◌≤◌, ◌⊎◌, inl, inr, List, [], ◌∷◌, ◌++◌, length, replicate, refl, ◌∙◌, arith}
use Rattle.fibs_rules.specs.Runs.{IsPart, held_of}
use Rattle.fibs_rules.specs.Search.{AreDice}

-- the first of a list
abbrev pub IsFront : List ℕ → List ℕ → Type 0
IsFront xs ys = (rest : List ℕ) × (xs ++ rest ≡ ys)

-- a front of some dice is a part of them
pub part_from_front : (dice rest : List ℕ) → IsPart dice (dice ++ rest)
part_from_front [] rest = tt
part_from_front (die ∷ dice) rest = ([], dice ++ rest, refl, part_from_front dice rest)

-- a list with a die is not empty
not_empty : (before after : List ℕ) (die : ℕ) → before ++ die ∷ after ≡ [] → ⊥
not_empty [] after die e = cc
not_empty (x ∷ before) after die e = cc

-- of equal dice one is picked, and the others are left
picked_equal : (before after : List ℕ) (die a n : ℕ) → before ++ die ∷ after ≡ replicate (suc n) a
    → (die ≡ a) × (before ++ after ≡ replicate n a)
picked_equal [] after die a n e = (cc, cc)
picked_equal (x ∷ before) after die a zero e =
    let f : before ++ die ∷ after ≡ [] = cc in absurd (not_empty before after die f)
picked_equal (x ∷ before) after die a (suc n) e =
    let f : before ++ die ∷ after ≡ replicate (suc n) a = cc in
    let ih = picked_equal before after die a n f in
    (ih.0, cc)

-- a part of equal dice is a front of them
equal_front : (dice held : List ℕ) (a n : ℕ) → held ≡ replicate n a → IsPart dice held → IsFront dice held
equal_front [] held a n e h = (held, refl)
equal_front (die ∷ dice) held a zero e (before, after, f, h) = absurd (not_empty before after die (f ∙ e))
equal_front (die ∷ dice) held a (suc n) e (before, after, f, h) =
    let (same, left) = picked_equal before after die a n (f ∙ e) in
    let (rest, g) = equal_front dice (before ++ after) a n left h in
    (rest, cc)

-- of two dice, a front in one of the two orders
two_front : (a b : ℕ) (dice : List ℕ) → IsPart dice (a ∷ b ∷ []) → IsFront dice (a ∷ b ∷ []) ⊎ IsFront dice (b ∷ a ∷ [])
two_front a b [] h = inl (a ∷ b ∷ [], refl)
two_front a b (die ∷ dice) ([], after, e, h) =
    let f : after ≡ b ∷ [] = cc in
    let (rest, g) = equal_front dice (b ∷ []) b 1 refl (rw f at h) in inl (rest, cc)
two_front a b (die ∷ dice) (x ∷ [], after, e, h) =
    let f : after ≡ [] = cc in
    let x_is : x ≡ a = cc in
    let (rest, g) = equal_front dice (a ∷ []) a 1 refl (rw (f, x_is) at h) in inr (rest, cc)
two_front a b (die ∷ dice) (x ∷ y ∷ before, after, e, h) =
    let f : before ++ die ∷ after ≡ [] = cc in absurd (not_empty before after die f)

-- what two shown dice give, in either order
pub data Held (a b : ℕ) : Type 0 where
  none : held_of a b ≡ [] → held_of b a ≡ [] → Held a b
  single : (d : ℕ) → (d ≡ a) ⊎ (d ≡ b) → 0 < d → held_of a b ≡ d ∷ [] → held_of b a ≡ d ∷ [] → Held a b
  different : a ≢ b → 0 < a → 0 < b → held_of a b ≡ a ∷ b ∷ [] → held_of b a ≡ b ∷ a ∷ [] → Held a b
  equal : 0 < a → held_of a b ≡ a ∷ a ∷ a ∷ a ∷ [] → held_of b a ≡ a ∷ a ∷ a ∷ a ∷ [] → Held a b

-- what the dice held are
pub held : (a b : ℕ) → Held a b
held a b = elim (cases_eq a b) [
  | inl same ↦
      elim (cases_eq a 0) [
        | inl nil ↦ none (grind (arith, nat_tests)) (grind (arith, nat_tests))
        | inr some ↦
            equal (omega arith) (grind (arith, nat_tests)) (grind (arith, nat_tests))
      ]
  | inr apart ↦ elim (cases_eq a 0) [
    | inl nil ↦ single b (inr refl) (omega arith) (grind (arith, nat_tests)) (grind (arith, nat_tests))
    | inr some ↦ elim (cases_eq b 0) [
      | inl nil ↦ single a (inl refl) (omega arith) (grind (arith, nat_tests)) (grind (arith, nat_tests))
      | inr other ↦ different apart (omega arith) (omega arith) (grind (arith, nat_tests)) (grind (arith, nat_tests))
    ]
  ]
]

-- each part of the dice held is a front of them in one of two orders
pub front_from_part : (a b : ℕ) (dice : List ℕ) → IsPart dice (held_of a b)
    → IsFront dice (held_of a b) ⊎ IsFront dice (held_of b a)
front_from_part a b dice h = elim (held a b) [
  | none e f ↦ inl (equal_front dice (held_of a b) 0 0 e h)
  | single d is pos e f ↦ inl (equal_front dice (held_of a b) d 1 e h)
  | different apart l r e f ↦ rw (e, f) (two_front a b dice (rw e at h))
  | equal pos e f ↦ inl (equal_front dice (held_of a b) a 4 e h)
]

-- a front of two dice turned round is a part of them
swapped_part : (a b : ℕ) (dice rest : List ℕ) → dice ++ rest ≡ b ∷ a ∷ [] → IsPart dice (a ∷ b ∷ [])
swapped_part a b [] rest e = tt
swapped_part a b (x ∷ []) rest e = (a ∷ [], [], cc, tt)
swapped_part a b (x ∷ y ∷ []) rest e = (a ∷ [], [], cc, ([], [], cc, tt))
swapped_part a b (x ∷ y ∷ z ∷ dice) rest e = absurd cc

-- a front is a part
front_part : (dice held : List ℕ) → IsFront dice held → IsPart dice held
front_part dice held (rest, e) = rw (← e) (part_from_front dice rest)

-- and each such front is a part of them
pub part_from_swapped : (a b : ℕ) (dice : List ℕ) → IsFront dice (held_of b a) → IsPart dice (held_of a b)
part_from_swapped a b dice h = elim (held a b) [
  | none e f ↦ rw e (front_part dice [] (rw f at h))
  | single d is pos e f ↦ rw e (front_part dice (d ∷ []) (rw f at h))
  | different apart l r e f ↦ rw e (swapped_part a b dice h.0 (h.1 ∙ f))
  | equal pos e f ↦ rw e (front_part dice (a ∷ a ∷ a ∷ a ∷ []) (rw f at h))
]

-- a front of the dice held is a part of them
pub part_from_held : (a b : ℕ) (dice : List ℕ) → IsFront dice (held_of a b) → IsPart dice (held_of a b)
part_from_held a b dice h = front_part dice (held_of a b) h

-- the dice held are dice
pub dice_held : (a b : ℕ) → a ≤ 6 → b ≤ 6 → AreDice (held_of a b)
dice_held a b l r = elim (held a b) [
  | none e f ↦ rw e tt
  | single d is pos e f ↦ rw e (pos, elim is [ inl s ↦ omega arith | inr s ↦ omega arith ], tt)
  | different apart x y e f ↦ rw e (x, l, (y, r, tt))
  | equal pos e f ↦ rw e (pos, l, (pos, l, (pos, l, (pos, l, tt))))
]

-- two different dice are held once each
pub two_held : (a b : ℕ) → 0 < a → 0 < b → a ≢ b → held_of a b ≡ a ∷ b ∷ []
two_held a b l r apart = grind (arith, nat_tests)

-- as many are held in either order
pub held_long : (a b : ℕ) → length (held_of a b) ≡ length (held_of b a)
held_long a b = grind (arith, nat_tests)

-- if no two different dice are held, the order of the two does not matter
pub alike : (a b : ℕ) → (0 < a → 0 < b → a ≢ b → ⊥) → held_of b a ≡ held_of a b
alike a b not_two = grind (arith, nat_tests, not_two)

-- a die that is shown is held
first_held : (a b : ℕ) → 0 < a → IsFront (a ∷ []) (held_of a b)
first_held a b pos = elim (cases_eq a b) [
  | inl same ↦ (a ∷ a ∷ a ∷ [], grind (arith, nat_tests))
  | inr apart ↦
      elim (cases_eq b 0) [ inl nil ↦ ([], grind (arith, nat_tests)) | inr some ↦ (b ∷ [], grind (arith, nat_tests)) ]
]

-- a die that is shown is a part of those held
pub shown_part : (a b die : ℕ) → (die ≡ a) ⊎ (die ≡ b) → 0 < die → IsPart (die ∷ []) (held_of a b)
shown_part a b die (inl e) pos = rw e (part_from_held a b (a ∷ []) (first_held a b (omega arith)))
shown_part a b die (inr e) pos = rw e (part_from_swapped a b (b ∷ []) (first_held b a (omega arith)))

-- a die that is held is shown
pub held_shown : (a b die : ℕ) (rest : List ℕ) → die ∷ rest ≡ held_of a b → ((die ≡ a) ⊎ (die ≡ b)) × (0 < die)
held_shown a b die rest h = elim (held a b) [
  | none e f ↦ absurd (cc)
  | single d is pos e f ↦ let same : die ≡ d = cc in
      (elim is [ inl x ↦ inl (same ∙ x) | inr x ↦ inr (same ∙ x) ], omega arith)
  | different apart l r e f ↦ let same : die ≡ a = cc in (inl same, omega arith)
  | equal pos e f ↦ let same : die ≡ a = cc in (inl same, omega arith)
]
