-- The entries of a directory after one message more.
use Rattle.std.proofs.Common.{◌≡◌, ℕ, ◌+◌, ◌<◌, ◌≤◌, ◌&&◌, nat_eq, is_none, length-append, zero, suc, Bool, true, false, cond, List, [], ◌∷◌, ◌++◌, length, map, None, Some, is_some, get_or, true≢false, refl, sym, ap, subst, ◌∙◌, arith}
use Rattle.std.specs.Cmp.Lexicographic.{bytes_decides}
use Rattle.std.specs.List.{AllPairs, AllByRecursion}
use Rattle.std.specs.Str.{bytes_eq}
use Rattle.std.proofs.lemmas.List.{length-map}
use Rattle.std.proofs.lemmas.List.Kept.{AllPairs-cons}
use Rattle.fibs_messages.specs.Message.{MessageValue}
use Rattle.fibs_messages.specs.Directory.{name_of, is_of, entry_of}
use Rattle.fibs_messages.specs.Directory.Steps.{with_entry, without_entry}

-- names that pass the test are equal
pub same_name : (a b : List ℕ) → bytes_eq a b ≡ true → a ≡ b
same_name a b h = (bytes_decides a b).0 h

-- a name passes its own test
pub own_name : (a : List ℕ) → bytes_eq a a ≡ true
own_name a = (bytes_decides a a).1 refl

-- a name that is another's is no third one's
apart : (k n e : List ℕ) → bytes_eq n e ≡ false → bytes_eq k e ≡ true → bytes_eq k n ≡ false
apart k n e other same = by (bytes_eq k n) refl
  where
    by : (b : Bool) → bytes_eq k n ≡ b → bytes_eq k n ≡ false
    by true h = absurd (true≢false (sym same ∙ ap (λ x. bytes_eq x e) (same_name k n h) ∙ other))
    by false h = h

-- the entry of a name with a message more
pub entry-with : (k : List ℕ) (es : List MessageValue) (m : MessageValue)
    → entry_of k (with_entry es m) ≡ cond (is_of k m) (Some m) (entry_of k es)
entry-with k [] m = refl
entry-with k (e ∷ es) m = by (entry-with k es m) (is_of (name_of m) e) refl
  where
    by : entry_of k (with_entry es m) ≡ cond (is_of k m) (Some m) (entry_of k es) → (b : Bool) → is_of (name_of m) e ≡ b
        → entry_of k (cond b (m ∷ es) (e ∷ with_entry es m))
        ≡ cond (is_of k m) (Some m) (cond (is_of k e) (Some e) (entry_of k es))
    by ih true h =
        let same : is_of k m ≡ is_of k e = ap (bytes_eq k) (same_name (name_of m) (name_of e) h) in
        grind arith
    by ih false h = let other = apart k (name_of m) (name_of e) h in grind arith

-- numbers of names that grow along a list
abbrev pub Rising : (List ℕ → ℕ) → List (List ℕ) → Type 0
Rising f [] = Unit {0}
Rising f (n ∷ ns) = AllByRecursion (λ k. f n < f k) ns × Rising f ns

-- what holds of each element holds of each by its place
by_places : {X : Type 0} (P : X → Type 0) (xs : List X)
    → ((j : ℕ) (d : X) → j < length xs → P (get_or xs j d)) → AllByRecursion P xs
by_places P [] h = tt
by_places P (x ∷ xs) h = (h 0 x (omega arith), by_places P xs (λ j d l. h (suc j) d (omega arith)))

-- and the other way round
to_places : {X : Type 0} (P : X → Type 0) (xs : List X)
    → AllByRecursion P xs → (j : ℕ) (d : X) → j < length xs → P (get_or xs j d)
to_places P [] h j d l = absurd (omega arith)
to_places P (x ∷ xs) h zero d l = h.0
to_places P (x ∷ xs) h (suc j) d l = to_places P xs h.1 j d (omega arith)

-- each two of the names in their order
pub pairs_from_rising : (f : List ℕ → ℕ) (ns : List (List ℕ)) → Rising f ns → AllPairs (λ a b. f a < f b) ns
pairs_from_rising f [] h = λ i j d less within. absurd (omega arith)
pairs_from_rising f (n ∷ ns) h =
    AllPairs-cons (λ a b. f a < f b) n ns (to_places (λ k. f n < f k) ns h.0) (pairs_from_rising f ns h.1)

-- and the other way round
pub rising_from_pairs : (f : List ℕ → ℕ) (ns : List (List ℕ)) → AllPairs (λ a b. f a < f b) ns → Rising f ns
rising_from_pairs f [] h = tt
rising_from_pairs f (n ∷ ns) h = (
  by_places (λ k. f n < f k) ns (λ j d l. h 0 (suc j) d (omega arith) (omega arith)),
  rising_from_pairs f ns (λ i j d less within. h (suc i) (suc j) d (omega arith) (omega arith)),
)

-- numbers that are the same on these names
pub rising-same : (f g : List ℕ → ℕ) (ns : List (List ℕ))
    → AllByRecursion (λ k. g k ≡ f k) ns → Rising f ns → Rising g ns
rising-same f g [] e h = tt
rising-same f g (n ∷ ns) e h = (above ns e.1 h.0, rising-same f g ns e.1 h.1)
  where
    above : (ks : List (List ℕ))
        → AllByRecursion (λ k. g k ≡ f k) ks → AllByRecursion (λ k. f n < f k) ks → AllByRecursion (λ k. g n < g k) ks
    above [] i l = tt
    above (k ∷ ks) i l = (omega (arith, e.0, i.0, l.0), above ks i.1 l.1)

-- a name more, with a greater number
pub rising-snoc : (f : List ℕ → ℕ) (ns : List (List ℕ)) (n : List ℕ)
    → AllByRecursion (λ k. f k < f n) ns → Rising f ns → Rising f (ns ++ n ∷ [])
rising-snoc f [] n l h = (tt, tt)
rising-snoc f (k ∷ ks) n l h = (last ks h.0, rising-snoc f ks n l.1 h.1)
  where
    last : (js : List (List ℕ)) → AllByRecursion (λ j. f k < f j) js → AllByRecursion (λ j. f k < f j) (js ++ n ∷ [])
    last [] i = (l.0, tt)
    last (j ∷ js) i = (i.0, last js i.1)

-- what holds of all entries' names holds of all but one's
all-without : (P : List ℕ → Type 0) (name : List ℕ) (es : List MessageValue)
    → AllByRecursion P (map name_of es) → AllByRecursion P (map name_of (without_entry name es))
all-without P name [] h = tt
all-without P name (e ∷ es) h =
    elim (is_of name e) as (λ b. AllByRecursion P (map name_of (cond b es (e ∷ without_entry name es)))) [
      | true ↦ h.1
      | false ↦ (h.0, all-without P name es h.1)
    ]

-- a name less
pub rising-without : (f : List ℕ → ℕ) (name : List ℕ) (es : List MessageValue)
    → Rising f (map name_of es) → Rising f (map name_of (without_entry name es))
rising-without f name [] h = tt
rising-without f name (e ∷ es) h =
    elim (is_of name e) as (λ b. Rising f (map name_of (cond b es (e ∷ without_entry name es)))) [
      | true ↦ h.1
      | false ↦ (all-without (λ k. f (name_of e) < f k) name es h.0, rising-without f name es h.1)
    ]

-- if the numbers grow, no name comes again
pub none_later : (f : List ℕ → ℕ) (name : List ℕ) (es : List MessageValue)
    → AllByRecursion (λ k. f name < f k) (map name_of es) → entry_of name es ≡ None
none_later f name [] h = refl
none_later f name (e ∷ es) h = by (none_later f name es h.1) (is_of name e) refl
  where
    by : entry_of name es ≡ None → (b : Bool) → is_of name e ≡ b → cond b (Some e) (entry_of name es) ≡ None
    by ih true i =
        let same : f name ≡ f (name_of e) = ap f (same_name name (name_of e) i) in absurd (omega (arith, same, h.0))
    by ih false i = ih

-- the entry of a name after one was taken out
pub entry-without : (f : List ℕ → ℕ) (k name : List ℕ) (es : List MessageValue) → Rising f (map name_of es)
    → entry_of k (without_entry name es) ≡ cond (bytes_eq k name) None (entry_of k es)
entry-without f k name [] h =
    elim (bytes_eq k name) as (λ b. entry_of k [] ≡ cond b None (entry_of k [])) [ true ↦ refl | false ↦ refl ]
entry-without f k name (e ∷ es) h = by (entry-without f k name es h.1) (is_of name e) (bytes_eq k name) refl refl
  where
    by : entry_of k (without_entry name es) ≡ cond (bytes_eq k name) None (entry_of k es)
        → (b c : Bool) → is_of name e ≡ b → bytes_eq k name ≡ c
        → entry_of k (cond b es (e ∷ without_entry name es)) ≡ cond c None (cond (is_of k e) (Some e) (entry_of k es))
    by ih true true i j =
        let is : k ≡ name_of e = same_name k name j ∙ same_name name (name_of e) i in
        none_later f k es (subst (λ n. AllByRecursion (λ m. f n < f m) (map name_of es)) (sym is) h.0)
    by ih true false i j =
        let not_it : is_of k e ≡ false = ap (bytes_eq k) (sym (same_name name (name_of e) i)) ∙ j in
        ap (λ b. cond b (Some e) (entry_of k es)) {y = is_of k e} (sym not_it)
    by ih false true i j =
        let not_it : is_of k e ≡ false = ap (λ n. bytes_eq n (name_of e)) (same_name k name j) ∙ i in
        ap (λ b. cond b (Some e) (entry_of k (without_entry name es))) not_it
        ∙ ih ∙ ap (λ b. cond b None (entry_of k es)) j
    by ih false false i j =
        ap (λ r. cond (is_of k e) (Some e) r) (ih ∙ ap (λ b. cond b None (entry_of k es)) j)

-- the names with a message of a known name
pub names-known : (es : List MessageValue) (m : MessageValue)
    → is_some (entry_of (name_of m) es) ≡ true → map name_of (with_entry es m) ≡ map name_of es
names-known [] m h = absurd (true≢false (sym h))
names-known (e ∷ es) m h = by (names-known es m) (is_of (name_of m) e) refl h
  where
    by : (is_some (entry_of (name_of m) es) ≡ true → map name_of (with_entry es m) ≡ map name_of es)
        → (b : Bool) → is_of (name_of m) e ≡ b
        → is_some (cond b (Some e) (entry_of (name_of m) es)) ≡ true
        → map name_of (cond b (m ∷ es) (e ∷ with_entry es m)) ≡ map name_of (e ∷ es)
    by ih true i j = ap (λ n. n ∷ map name_of es) (same_name (name_of m) (name_of e) i)
    by ih false i j = ap (λ l. name_of e ∷ l) (ih j)

-- the names with one of a new name
pub names-new : (es : List MessageValue) (m : MessageValue)
    → is_some (entry_of (name_of m) es) ≡ false → map name_of (with_entry es m) ≡ map name_of es ++ name_of m ∷ []
names-new [] m h = refl
names-new (e ∷ es) m h = by (names-new es m) (is_of (name_of m) e) refl h
  where
    by : (is_some (entry_of (name_of m) es) ≡ false → map name_of (with_entry es m) ≡ map name_of es ++ name_of m ∷ [])
        → (b : Bool) → is_of (name_of m) e ≡ b
        → is_some (cond b (Some e) (entry_of (name_of m) es)) ≡ false
        → map name_of (cond b (m ∷ es) (e ∷ with_entry es m)) ≡ map name_of (e ∷ es) ++ name_of m ∷ []
    by ih true i j = absurd (true≢false j)
    by ih false i j = ap (λ l. name_of e ∷ l) (ih j)

-- with a message of a known name there are as many entries
length-known : (es : List MessageValue) (m : MessageValue)
    → is_some (entry_of (name_of m) es) ≡ true → length (with_entry es m) ≡ length es
length-known es m h =
    sym (length-map (with_entry es m) name_of) ∙ ap length (names-known es m h) ∙ length-map es name_of

-- with one of a new name there is one more
length-new : (es : List MessageValue) (m : MessageValue)
    → is_some (entry_of (name_of m) es) ≡ false → length (with_entry es m) ≡ length es + 1
length-new es m h = sym (length-map (with_entry es m) name_of) ∙ ap length (names-new es m h)
    ∙ length-append (map name_of es) (name_of m ∷ []) ∙ ap (λ k. k + 1) (length-map es name_of)

-- each entry's name has an entry
pub named : (all es : List MessageValue)
    → ((k : List ℕ) → is_some (entry_of k es) ≡ true → is_some (entry_of k all) ≡ true)
    → AllByRecursion (λ k. is_some (entry_of k all) ≡ true) (map name_of es)
named all [] h = tt
named all (e ∷ es) h = (
  h (name_of e) (ap (λ b. is_some (cond b (Some e) (entry_of (name_of e) es))) (own_name (name_of e))),
  named all es (λ k i. h k
      (elim (is_of k e) as (λ b. is_some (cond b (Some e) (entry_of k es)) ≡ true) [ true ↦ refl | false ↦ i ])),
)

-- what follows for each name
pub all-map : (P Q : List ℕ → Type 0)
    → ((k : List ℕ) → P k → Q k) → (ns : List (List ℕ)) → AllByRecursion P ns → AllByRecursion Q ns
all-map P Q h [] i = tt
all-map P Q h (n ∷ ns) i = (h n i.0, all-map P Q h ns i.1)

-- a name more fits if there is room for it
pub fits : (n : ℕ) (es : List MessageValue) (m : MessageValue)
    → length es ≤ n → (is_none (entry_of (name_of m) es) && nat_eq (length es) n) ≡ false → length (with_entry es m) ≤ n
fits n es m within room = by (is_some (entry_of (name_of m) es)) refl
  where
    by : (b : Bool) → is_some (entry_of (name_of m) es) ≡ b → length (with_entry es m) ≤ n
    by true h = omega (arith, length-known es m h)
    by false h = let long = length-new es m h in grind arith
