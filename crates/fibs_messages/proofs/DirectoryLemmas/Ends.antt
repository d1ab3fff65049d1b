-- What one element more at the end of a list changes: what is after the last that passes a test, the first that
-- passes, the last of those that pass.
use Rattle.std.proofs.Common.{◌≡◌, ℕ, ◌+◌, ◌-◌, ◌<◌, ◌≤◌, zero, suc, Bool, true, false, cond, not, List, [], ◌∷◌, ◌++◌, length, drop, reverse, filter, Option, None, Some, is_some, true≢false, refl, sym, ap, ◌∙◌, arith, length-append}
use Rattle.std.specs.List.{after_last, last_or, position_or_len, prefix_len, suffix_len}
use Rattle.std.proofs.lemmas.List.{reverse-append}

-- a front that is dropped, if more follows
drop-snoc : {X : Type 0} (n : ℕ) (xs : List X) (x : X) → n ≤ length xs → drop n (xs ++ x ∷ []) ≡ drop n xs ++ x ∷ []
drop-snoc zero xs x h = refl
drop-snoc (suc n) [] x h = absurd (omega arith)
drop-snoc (suc n) (y ∷ xs) x h = drop-snoc n xs x (omega arith)

-- all is dropped
drop-whole : {X : Type 0} (n : ℕ) (xs : List X) → n ≡ length xs → drop n xs ≡ []
drop-whole n [] h = ap (λ m. drop m []) h
drop-whole zero (x ∷ xs) h = absurd (omega arith)
drop-whole (suc n) (x ∷ xs) h = drop-whole n xs (omega arith)

-- a list that goes on ends with what came last
pub last_or-snoc : {X : Type 0} (o : Option X) (xs : List X) (x : X) → last_or o (xs ++ x ∷ []) ≡ Some x
last_or-snoc o [] x = refl
last_or-snoc o (y ∷ xs) x = last_or-snoc (Some y) xs x

-- a list with an element has a last one
last_or_some : {X : Type 0} (y : X) (xs : List X) → is_some (last_or (Some y) xs) ≡ true
last_or_some y [] = refl
last_or_some y (x ∷ xs) = last_or_some x xs

module _ {X : Type 0} (p : X → Bool) where
  -- the last that passes is the new one
  pub after_last-end : (xs : List X) (x : X) → p x ≡ true → after_last p (xs ++ x ∷ []) ≡ []
  after_last-end xs x e =
      let none : suffix_len (λ y. not (p y)) (xs ++ x ∷ []) ≡ 0 =
      ap (prefix_len (λ y. not (p y))) (reverse-append xs (x ∷ []))
      ∙ ap (λ b. cond (not b) (1 + suffix_len (λ y. not (p y)) xs) 0) e in
      drop-whole _ (xs ++ x ∷ []) (omega (arith, none))

  -- the last that passes stays where it is
  pub after_last-more : (xs : List X) (x : X) → p x ≡ false → after_last p (xs ++ x ∷ []) ≡ after_last p xs ++ x ∷ []
  after_last-more xs x e =
      let one : suffix_len (λ y. not (p y)) (xs ++ x ∷ []) ≡ 1 + suffix_len (λ y. not (p y)) xs =
      ap (prefix_len (λ y. not (p y))) (reverse-append xs (x ∷ []))
      ∙ ap (λ b. cond (not b) (1 + suffix_len (λ y. not (p y)) xs) 0) e in
      let place : length (xs ++ x ∷ []) - suffix_len (λ y. not (p y)) (xs ++ x ∷ [])
      ≡ length xs - suffix_len (λ y. not (p y)) xs =
      omega (arith, one, length-append xs (x ∷ [])) in
      ap (λ n. drop n (xs ++ x ∷ [])) place ∙ drop-snoc (length xs - suffix_len (λ y. not (p y)) xs) xs x (omega arith)

  -- one more that does not pass
  pub filter-snoc_no : (xs : List X) (x : X) → p x ≡ false → filter p (xs ++ x ∷ []) ≡ filter p xs
  filter-snoc_no [] x e = ap (λ b. cond b (x ∷ []) []) e
  filter-snoc_no (y ∷ xs) x e = ap (λ l. cond (p y) (y ∷ l) l) (filter-snoc_no xs x e)

  -- one more that passes
  pub filter-snoc_yes : (xs : List X) (x : X) → p x ≡ true → filter p (xs ++ x ∷ []) ≡ filter p xs ++ x ∷ []
  filter-snoc_yes [] x e = ap (λ b. cond b (x ∷ []) []) e
  filter-snoc_yes (y ∷ xs) x e = let ih = filter-snoc_yes xs x e in grind arith

  -- the first that passes stays where it is
  pub position-snoc_found : (xs : List X) (x : X)
      → position_or_len p xs < length xs → position_or_len p (xs ++ x ∷ []) ≡ position_or_len p xs
  position-snoc_found [] x h = absurd (omega arith)
  position-snoc_found (y ∷ xs) x h =
      let ih = position-snoc_found xs x in
      elim (p y) as (λ b. cond (not b) (1 + position_or_len p xs) 0 < length (y ∷ xs)
      → cond (not b) (1 + position_or_len p (xs ++ x ∷ [])) 0 ≡ cond (not b) (1 + position_or_len p xs) 0) [
        | true ↦ λ _. refl
        | false ↦ λ l. ap (λ n. 1 + n) (ih (omega (arith, l)))
      ] h

  -- the first that passes is the new one
  pub position-snoc_new : (xs : List X) (x : X)
      → position_or_len p xs ≡ length xs → p x ≡ true → position_or_len p (xs ++ x ∷ []) ≡ length xs
  position-snoc_new [] x h e = ap (λ b. cond (not b) 1 0) e
  position-snoc_new (y ∷ xs) x h e =
      let ih = position-snoc_new xs x in
      elim (p y) as (λ b. cond (not b) (1 + position_or_len p xs) 0 ≡ length (y ∷ xs)
      → cond (not b) (1 + position_or_len p (xs ++ x ∷ [])) 0 ≡ length (y ∷ xs)) [
        | true ↦ λ l. absurd (omega (arith, l))
        | false ↦ λ l. omega (arith, ih (omega (arith, l)) e)
      ] h

  -- if one passes, the first is in the list
  pub found_from_last : (xs : List X) → is_some (last_or None (filter p xs)) ≡ true → position_or_len p xs < length xs
  found_from_last [] h = absurd (true≢false (sym h))
  found_from_last (y ∷ xs) h =
      let ih = found_from_last xs in
      elim (p y) as (λ b. is_some (last_or None (cond b (y ∷ filter p xs) (filter p xs))) ≡ true
      → cond (not b) (1 + position_or_len p xs) 0 < length (y ∷ xs)) [
        | true ↦ λ _. omega arith
        | false ↦ λ l. omega (arith, ih l)
      ] h

  -- if none passes, none is in the list
  pub absent_from_last : (xs : List X) → is_some (last_or None (filter p xs)) ≡ false → position_or_len p xs ≡ length xs
  absent_from_last [] h = refl
  absent_from_last (y ∷ xs) h =
      let ih = absent_from_last xs in
      elim (p y) as (λ b. is_some (last_or None (cond b (y ∷ filter p xs) (filter p xs))) ≡ false
      → cond (not b) (1 + position_or_len p xs) 0 ≡ length (y ∷ xs)) [
        | true ↦ λ l. absurd (true≢false (sym (last_or_some y (filter p xs)) ∙ l))
        | false ↦ λ l. omega (arith, ih l)
      ] h
