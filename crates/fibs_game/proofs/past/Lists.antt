-- Facts on lists and tests.
use Rattle.std.proofs.Common.{◌≡◌, ℕ, Bool, true, false, ◌&&◌, List, [], ◌∷◌, ◌++◌, Option, Some, None, nat_eq, flat_map, refl, sym, ◌∙◌, ap, inl, inr, append-nil, true≢false}
use Rattle.std.proofs.lemmas.List.Concat.{flat_map-append}
use Rattle.std.proofs.lemmas.Bool.Decides.{eqb_tells}
use Rattle.fibs_game.specs.Words.{one_if, is_empty, last, each}

-- a number is found to be itself
pub same_number : (c : ℕ) → nat_eq c c ≡ true
same_number c = elim (eqb_tells c c) [ inl p ↦ p.0 | inr p ↦ absurd (p.1 refl) ]

-- two numbers that differ are found to differ
pub other_number : (c d : ℕ) → (c ≡ d → ⊥) → nat_eq c d ≡ false
other_number c d h = elim (eqb_tells c d) [ inl p ↦ absurd (h p.1) | inr p ↦ p.0 ]

-- the list of one under a test that holds has the element
pub one_of_true : {A : Type 0} (t : Bool) (x : A) → t ≡ true → one_if t x ≡ x ∷ []
one_of_true t x h = rw h refl

-- the list of one under a test that fails is empty
pub one_of_false : {A : Type 0} (t : Bool) (x : A) → t ≡ false → one_if t x ≡ []
one_of_false t x h = rw h refl

-- the last element of a list is the one that was put at its end
pub last_snoc : {A : Type 0} (xs : List A) (x : A) → last (xs ++ x ∷ []) ≡ Some x
last_snoc [] x = refl
last_snoc (y ∷ []) x = refl
last_snoc (y ∷ z ∷ zs) x = last_snoc (z ∷ zs) x

-- a list that has a last element is the elements before it, and that
pub before_last : {A : Type 0} (xs : List A) (v : A) → last xs ≡ Some v → is_empty xs ≡ false
before_last [] v h = cc
before_last (x ∷ xs) v h = refl

-- a list that is found to be empty is the empty one
pub empty_none : {A : Type 0} (xs : List A) → is_empty xs ≡ true → xs ≡ []
empty_none [] h = refl
empty_none (x ∷ xs) h = absurd (true≢false (sym h))

-- a list with an element at its end is not empty
pub snoc_not_empty : {A : Type 0} (xs : List A) (x : A) → is_empty (xs ++ x ∷ []) ≡ false
snoc_not_empty [] x = refl
snoc_not_empty (y ∷ ys) x = refl

-- of two tests that hold together the first holds
pub and_left : (a b : Bool) → (a && b) ≡ true → a ≡ true
and_left true b h = refl
and_left false b h = h

-- of two tests that hold together the second holds
pub and_right : (a b : Bool) → (a && b) ≡ true → b ≡ true
and_right true b h = h
and_right false b h = absurd (true≢false (sym h))

-- two tests that hold also hold together
pub and_both : (a b : Bool) → a ≡ true → b ≡ true → (a && b) ≡ true
and_both a b h k = rw (h, k) refl

-- a test holds of each element of two lists together exactly if it does of both
pub each_append : {A : Type 0} (p : A → Bool) (xs ys : List A) → each p (xs ++ ys) ≡ (each p xs && each p ys)
each_append p [] ys = refl
each_append p (x ∷ xs) ys = step (p x) _ _ _ (each_append p xs ys)
  where
    step : (a b c d : Bool) → b ≡ (c && d) → (a && b) ≡ ((a && c) && d)
    step true b c d h = h
    step false b c d h = refl

-- a test that holds of each element holds of the last
pub each_last : {A : Type 0} (p : A → Bool) (x : A) (xs : List A) (v : A)
    → each p (x ∷ xs) ≡ true → last (x ∷ xs) ≡ Some v → p v ≡ true
each_last p x [] v h e = let k : p x ≡ true = and_left _ _ h in let s : x ≡ v = cc in rw s at k
each_last p x (y ∷ ys) v h e = each_last p y ys v (and_right _ _ h) e

-- a list with nothing more
pub map_more : {X A : Type 0} (f : X → List A) (xs ys : List X) (zs : List A)
    → flat_map f ys ≡ zs → flat_map f (xs ++ ys) ≡ flat_map f xs ++ zs
map_more f xs ys zs h = flat_map-append f xs ys ∙ ap (λ t. flat_map f xs ++ t) h

-- elements that give nothing add nothing at the end
pub map_no_more : {X A : Type 0} (f : X → List A) (xs ys : List X)
    → flat_map f ys ≡ [] → flat_map f (xs ++ ys) ≡ flat_map f xs
map_no_more f xs ys h = map_more f xs ys [] h ∙ append-nil _

-- a list of one, or none
abbrev pub to_list : {A : Type 0} → Option A → List A
to_list None = []
to_list (Some x) = x ∷ []
