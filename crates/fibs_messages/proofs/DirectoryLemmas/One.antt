-- Each list of messages has one directory.
use Rattle.std.proofs.Common.{◌≡◌, ℕ, ◌<◌, Bool, true, false, cond, eqb, List, [], ◌∷◌, ◌++◌, map, None, Some, unwrap_or, is_some, true≢false, refl, sym, ap, subst, ◌∙◌, arith, append_assoc}
use Rattle.std.proofs.lemmas.List.{append-nil}
use Rattle.std.specs.List.{AllByRecursion}
use Rattle.fibs_messages.specs.Message.{MessageValue}
use Rattle.fibs_messages.specs.Directory.{name_of, is_of, first_place, entry_of, IsDirectory}
use Rattle.fibs_messages.specs.Directory.Laws.{EachListHasADirectory, NoListHasTwoDirectories}
use Rattle.fibs_messages.proofs.DirectoryLemmas.Entries.{same_name, own_name, Rising, rising_from_pairs, none_later}
use Rattle.fibs_messages.proofs.DirectoryLemmas.Notes.{directory_of_none, noted_told, noted_logout, noted_number}

-- some entry is the one that it is
same_some : {X : Type 0} {x y : X} → Some x ≡ Some y → x ≡ y
same_some {X} {x} e = ap (λ r. unwrap_or r x) e

-- no entry and some entry are not the same
none_is_some : {X : Type 0} {x : X} → None ≡ Some x → ⊥
none_is_some e = true≢false (sym (ap is_some e))

module _ (f : List ℕ → ℕ) where
  -- an entry's name has a number above those before
  above : (n k : List ℕ) (es : List MessageValue) (e : MessageValue)
      → AllByRecursion (λ j. f n < f j) (map name_of es) → entry_of k es ≡ Some e → f n < f k
  above n k [] e h is = absurd (none_is_some is)
  above n k (x ∷ es) e h is = by (above n k es e h.1) (is_of k x) refl is
    where
      by : (entry_of k es ≡ Some e → f n < f k)
          → (b : Bool) → is_of k x ≡ b → cond b (Some x) (entry_of k es) ≡ Some e → f n < f k
      by ih true i j = subst (λ a. f n < f a) (sym (same_name k (name_of x) i)) h.0
      by ih false i j = ih j

  -- the first entry has the least number of all that have an entry
  least : (x : MessageValue) (es : List MessageValue) (k : List ℕ) (e : MessageValue)
      → Rising f (map name_of (x ∷ es)) → entry_of k (x ∷ es) ≡ Some e → is_of k x ≡ false → f (name_of x) < f k
  least x es k e h is other = above (name_of x) k es e h.0 (sym (ap (λ b. cond b (Some x) (entry_of k es)) other) ∙ is)

  -- an entry has its own name's
  own : (x : MessageValue) (es : List MessageValue) → entry_of (name_of x) (x ∷ es) ≡ Some x
  own x es = ap (λ b. cond b (Some x) (entry_of (name_of x) es)) (own_name (name_of x))

  -- the first entries of two lists with the same entries in order are one
  first : (x y : MessageValue) (es fs : List MessageValue)
      → Rising f (map name_of (x ∷ es)) → Rising f (map name_of (y ∷ fs))
      → ((k : List ℕ) → entry_of k (x ∷ es) ≡ entry_of k (y ∷ fs)) → x ≡ y
  first x y es fs h i same = by (is_of (name_of x) y) refl
    where
      by : (b : Bool) → is_of (name_of x) y ≡ b → x ≡ y
      by true e =
          same_some (sym (own x es) ∙ same (name_of x) ∙ ap (λ b. cond b (Some y) (entry_of (name_of x) fs)) e)
      by false e =
          let down : f (name_of y) < f (name_of x) = least y fs (name_of x) x i (sym (same (name_of x)) ∙ own x es) e in
          back (is_of (name_of y) x) refl down
        where
          back : (b : Bool) → is_of (name_of y) x ≡ b → f (name_of y) < f (name_of x) → x ≡ y
          back true g down = let equal : f (name_of y) ≡ f (name_of x) =
              ap f (same_name (name_of y) (name_of x) g) in absurd (omega (arith, equal, down))
          back false g down = let up : f (name_of x) < f (name_of y) =
              least x es (name_of y) y h (same (name_of y) ∙ own y fs) g in absurd (omega (arith, up, down))

  -- the entries after the first are the same too
  rest : (x : MessageValue) (es fs : List MessageValue)
      → Rising f (map name_of (x ∷ es)) → Rising f (map name_of (x ∷ fs))
      → ((k : List ℕ) → entry_of k (x ∷ es) ≡ entry_of k (x ∷ fs)) → (k : List ℕ) → entry_of k es ≡ entry_of k fs
  rest x es fs h i same k = by (is_of k x) refl (same k)
    where
      by : (b : Bool) → is_of k x ≡ b
          → cond b (Some x) (entry_of k es) ≡ cond b (Some x) (entry_of k fs) → entry_of k es ≡ entry_of k fs
      by true e s =
          let is : k ≡ name_of x = same_name k (name_of x) e in
          none_later f k es (subst (λ n. AllByRecursion (λ m. f n < f m) (map name_of es)) (sym is) h.0)
          ∙ sym (none_later f k fs (subst (λ n. AllByRecursion (λ m. f n < f m) (map name_of fs)) (sym is) i.0))
      by false e s = s

  -- two lists with the same entries in order are one
  pub one_list : (es fs : List MessageValue)
      → Rising f (map name_of es) → Rising f (map name_of fs) → ((k : List ℕ) → entry_of k es ≡ entry_of k fs) → es ≡ fs
  one_list [] [] h i same = refl
  one_list [] (y ∷ fs) h i same = absurd (none_is_some (same (name_of y) ∙ own y fs))
  one_list (x ∷ es) [] h i same = absurd (none_is_some (sym (same (name_of x)) ∙ own x es))
  one_list (x ∷ es) (y ∷ fs) h i same =
      let equal : x ≡ y = first x y es fs h i same in
      let i' = subst (λ z. Rising f (map name_of (z ∷ fs))) (sym equal) i in
      let same' = subst (λ z. (k : List ℕ) → entry_of k (x ∷ es) ≡ entry_of k (z ∷ fs)) (sym equal) same in
      ap (λ l. x ∷ l) (one_list es fs h.1 i'.1 (rest x es fs h i' same')) ∙ ap (λ z. z ∷ fs) equal

-- no list of messages has two directories
pub no_list_has_two_directories : NoListHasTwoDirectories
no_list_has_two_directories ms es fs d e =
    one_list (λ k. first_place k ms) es fs (rising_from_pairs (λ k. first_place k ms) (map name_of es) d.order)
    (rising_from_pairs (λ k. first_place k ms) (map name_of fs) e.order)
    (λ k. d.each k ∙ sym (e.each k))

-- one message more, whatever it is
goes_on : (ms es : List MessageValue) (m : MessageValue)
    → IsDirectory ms es → (fs : List MessageValue) × IsDirectory (ms ++ m ∷ []) fs
goes_on ms es m d = by (eqb m.number 5) (eqb m.number 8) refl refl
  where
    by : (b c : Bool)
        → eqb m.number 5 ≡ b → eqb m.number 8 ≡ c → (fs : List MessageValue) × IsDirectory (ms ++ m ∷ []) fs
    by true c i j = (_, noted_told ms es m d (grind arith))
    by false true i j = (_, noted_logout ms es m d (grind arith))
    by false false i j = (es, noted_number ms es m d (λ e. grind arith) (λ e. grind arith))

-- more messages
go_on : (ms more es : List MessageValue) → IsDirectory ms es → (fs : List MessageValue) × IsDirectory (ms ++ more) fs
go_on ms [] es d = (es, subst (λ l. IsDirectory l es) (sym (append-nil ms)) d)
go_on ms (m ∷ more) es d =
    let next = goes_on ms es m d in
    let all = go_on (ms ++ m ∷ []) more next.0 next.1 in
    (all.0, subst (λ l. IsDirectory l all.0) (append_assoc ms (m ∷ []) more) all.1)

-- each list of messages has a directory
pub each_list_has_a_directory : EachListHasADirectory
each_list_has_a_directory ms = go_on [] ms [] directory_of_none
