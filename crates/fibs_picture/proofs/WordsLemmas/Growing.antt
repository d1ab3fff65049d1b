-- How the row of a side, and the list of held places, grow by one place.
use Rattle.std.proofs.Common.{◌≡◌, ◌<◌, ◌≤◌, ◌+◌, ◌==◌, ◌++◌, ℕ, zero, suc, Bool, true, false, cond, subst, List, [], ◌∷◌, length, codes, refl, sym, ◌∙◌, ap, arith, append-nil, append_assoc}
use Rattle.std.specs.Prelude.{Option, Result, Ok, Err, OnOk}
use Rattle.std.specs.Io.KnownBytes.{Appends}
use Rattle.std.specs.List.{flat_map, filter, range_with_len}
use Rattle.std.proofs.KnownBytes.{Appends-nil, Appends-trans}
use Rattle.std.proofs.lemmas.Bool.Decides.{nat_tests}
use Rattle.std.proofs.lemmas.List.{length-append}
use Rattle.std.proofs.lemmas.List.Concat.{flat_map-append}
use Rattle.fibs_position.specs.declared.direction.Direction.{Direction}
use Rattle.fibs_rules.specs.Checkers.{Checkers}
use Rattle.fibs_picture.specs.InWords.Words.{stack, stacks, is_listed, listed, joined, next_name, numbers, place_name}
use Rattle.fibs_picture.specs.declared.in_words.listed.Listed.{Listed}
use Rattle.fibs_picture.specs.declared.in_words.side.Side.{Side}

-- some numbers and the next one
range-more : (a n j : ℕ) → a + n ≡ j → range_with_len a (n + 1) ≡ range_with_len a n ++ j ∷ []
range-more a zero j e = let same : a ≡ j = omega (arith, e) in rw same refl
range-more a (suc n) j e =
    let next : suc n + 1 ≡ suc (n + 1) = omega arith in
    rw next (ap (λ xs. a ∷ xs) (range-more (a + 1) n j (omega (arith, e))))

-- what is written after what is known
pub written-after : {E : Type 0} (r : Result (Unit {0}) E) (a b c : Option (List ℕ)) (xs ys : List ℕ)
    → Appends a b xs → OnOk r (Appends b c ys) → OnOk r (Appends a c (xs ++ ys))
written-after (Ok x) a b c xs ys p q = Appends-trans a b c xs ys p q
written-after (Err x) a b c xs ys p q = tt

-- the stacks of one place more
stacks-more : (d : Direction) (s : Side) (count : ℕ → ℕ) (n : ℕ)
    → stacks d s count (n + 1) ≡ stacks d s count n ++ stack d s count n
unfolding stacks
stacks-more d s count n =
    ap (flat_map (stack d s count)) (range-more 0 n n (omega arith))
    ∙ flat_map-append (stack d s count) (range_with_len 0 n) (n ∷ [])
    ∙ ap (λ t. stacks d s count n ++ t) (append-nil (stack d s count n))

-- at first no stack is written
pub stacks-begun : (d : Direction) (s : Side) (count : ℕ → ℕ) (a : Option (List ℕ)) → Appends a a (stacks d s count 0)
unfolding stacks
stacks-begun d s count a = Appends-nil a

-- the stack of one more place is written after those before
pub stacks-written : (d : Direction) (s : Side) (count : ℕ → ℕ) (n : ℕ) (a b c : Option (List ℕ))
    → Appends a b (stacks d s count n) → Appends b c (stack d s count n) → Appends a c (stacks d s count (n + 1))
stacks-written d s count n a b c before here =
    subst (Appends a c) (sym (stacks-more d s count n))
    (Appends-trans a b c (stacks d s count n) (stack d s count n) before here)

-- an element that is kept, or not, comes before what is put at the end
pushed : (kept last : Bool) (x y : ℕ) (xs : List ℕ)
    → cond kept (x ∷ (xs ++ cond last (y ∷ []) [])) (xs ++ cond last (y ∷ []) [])
    ≡ cond kept (x ∷ xs) xs ++ cond last (y ∷ []) []
pushed true last x y xs = refl
pushed false last x y xs = refl

-- a filter keeps the element at the end, or not, after what it keeps of those before
filter-push : (p : ℕ → Bool) (xs : List ℕ) (y : ℕ) → filter p (xs ++ y ∷ []) ≡ filter p xs ++ cond (p y) (y ∷ []) []
filter-push p [] y = refl
filter-push p (x ∷ xs) y = rw (filter-push p xs y) (pushed (p x) (p y) x y (filter p xs))

-- a place that is listed comes to those before, and no other one
listed-more : (c : Checkers) (w : Listed) (n place : ℕ) → n + 1 ≡ place → is_listed c w place ≡ true
    → listed c w (n + 1) ≡ listed c w n ++ place ∷ []
unfolding listed
listed-more c w n place e h =
    rw (range-more 1 n place (omega (arith, e)), filter-push (is_listed c w) (range_with_len 1 n) place, h) refl

-- a place that is not listed leaves those that are
listed-same : (c : Checkers) (w : Listed) (n place : ℕ) → n + 1 ≡ place → is_listed c w place ≡ false
    → listed c w (n + 1) ≡ listed c w n
unfolding listed
listed-same c w n place e h =
    rw (range-more 1 n place (omega (arith, e)), filter-push (is_listed c w) (range_with_len 1 n) place, h)
    (append-nil _)

-- a number that counts something is not 0
is-some : (count n : ℕ) → count ≡ suc n → (count == 0) ≡ false
is-some count n h = grind (arith, nat_tests)

-- names of places, and one more
joined-next : (d : Direction) (s : Side) (places : List ℕ) (place count : ℕ) → count ≡ length places
    → joined d s (places ++ place ∷ []) ≡ joined d s places ++ next_name d s count place
unfolding joined
joined-next d s [] place count h = rw h (append-nil _)
joined-next d s (p ∷ places) place count h =
    let f : ℕ → List ℕ = λ y. codes ", " ++ place_name d s y in
    let last = place_name d s place in
    let more : flat_map f (places ++ place ∷ []) ≡ flat_map f places ++ (codes ", " ++ last) =
    flat_map-append f places (place ∷ []) ∙ ap (λ t. flat_map f places ++ t) (append-nil _) in
    rw (is-some count (length places) h)
    (ap (λ t. place_name d s p ++ t) more
    ∙ sym (append_assoc (place_name d s p) (flat_map f places) (codes ", " ++ last)))

-- what is written of the places so far, and how many those are
pub record ListedSo (c : Checkers) (w : Listed) (d : Direction) (s : Side) (n count : ℕ) (a b : Option (List ℕ)) :
    Type 0 where
  pub counted : count ≡ length (listed c w n)
  pub few : count ≤ n
  pub written : Appends a b (joined d s (listed c w n))

-- at first no place is written
pub listed-none : (c : Checkers) (w : Listed) (d : Direction) (s : Side) (a : Option (List ℕ))
    → ListedSo c w d s 0 0 a a
unfolding listed joined
listed-none c w d s a = record { counted = refl; few = omega arith; written = Appends-nil a }

-- a place that is not listed is passed
pub listed-passed : (c : Checkers) (w : Listed) (d : Direction) (s : Side) (n count : ℕ) (a b : Option (List ℕ))
    → is_listed c w (n + 1) ≡ false
    → ListedSo c w d s n count a b → ListedSo c w d s (n + 1) count a b
listed-passed c w d s n count a b h so = let same = listed-same c w n (n + 1) refl h in record {
  counted = so.counted ∙ ap length (sym same);
  few = omega (arith, so.few);
  written = subst (λ places. Appends a b (joined d s places)) (sym same) so.written;
}

-- a place that is listed is written after those before
pub listed-written : (c : Checkers) (w : Listed) (d : Direction) (s : Side) (n count : ℕ) (a b e : Option (List ℕ))
    → is_listed c w (n + 1) ≡ true
    → ListedSo c w d s n count a b → Appends b e (next_name d s count (n + 1))
    → ListedSo c w d s (n + 1) (count + 1) a e
listed-written c w d s n count a b e h so here =
    let more = listed-more c w n (n + 1) refl h in record {
      counted = omega (arith, so.counted, ap length more, length-append (listed c w n) ((n + 1) ∷ []));
      few = omega (arith, so.few);
      written = subst (Appends a e) (sym (ap (joined d s) more ∙ joined-next d s (listed c w n) (n + 1) count
          so.counted))
          (Appends-trans a b e (joined d s (listed c w n)) (next_name d s count (n + 1)) so.written here);
    }

-- if there are none, that is said in place of the numbers
pub numbers-written : (d : Direction) (s : Side) (places : List ℕ) (count : ℕ) (a b : Option (List ℕ))
    → count ≡ length places
    → 0 < count → Appends a b (joined d s places) → Appends a b (numbers d s places)
unfolding numbers joined
numbers-written d s [] count a b h some written = absurd (omega (arith, h, some))
numbers-written d s (p ∷ places) count a b h some written = written

-- if there are no places `none` is written
numbers-none : (d : Direction) (s : Side) (places : List ℕ) (count : ℕ) (a b e : Option (List ℕ))
    → count ≡ length places
    → count ≡ 0 → Appends a b (joined d s places) → Appends b e (codes "none") → Appends a e (numbers d s places)
unfolding numbers joined
numbers-none d s [] count a b e h none written here = Appends-trans a b e [] (codes "none") written here
numbers-none d s (p ∷ places) count a b e h none written here = absurd (omega (arith, h, none))

-- the same if memory sufficed
pub none-written : {E : Type 0} (r : Result (Unit {0}) E) (d : Direction) (s : Side) (places : List ℕ) (count : ℕ)
    (a b e : Option (List ℕ)) → count ≡ length places
    → count ≡ 0 → Appends a b (joined d s places) → OnOk r (Appends b e (codes "none"))
    → OnOk r (Appends a e (numbers d s places))
none-written (Ok x) d s places count a b e h none written here = numbers-none d s places count a b e h none written here
none-written (Err x) d s places count a b e h none written here = tt
