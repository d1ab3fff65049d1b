-- How a name's last message 5, and the place of its first, change with one message more.
use Rattle.std.proofs.Common.{◌≡◌, ℕ, ◌+◌, ◌-◌, ◌<◌, ◌≤◌, true, false, not, List, [], ◌∷◌, ◌++◌, length, filter, None, Some, is_some, ap, ◌∙◌, arith, length-append, length-drop}
use Rattle.std.specs.List.{last_or, position_or_len, suffix_len}
use Rattle.fibs_messages.specs.Message.{MessageValue}
use Rattle.fibs_messages.specs.Directory.{tells, logs_out, since_logout, last_told, first_place}
use Rattle.fibs_messages.proofs.DirectoryLemmas.Ends.{last_or-snoc, after_last-end, after_last-more, filter-snoc_no, filter-snoc_yes, position-snoc_found, position-snoc_new, found_from_last, absent_from_last}

-- no more messages came since a logout than came at all
since_within : (name : List ℕ) (ms : List MessageValue) → length (since_logout name ms) ≤ length ms
since_within name ms =
    let long : length (since_logout name ms) ≡ length ms - (length ms - suffix_len (λ m. not (logs_out name m)) ms) =
    length-drop (length ms - suffix_len (λ m. not (logs_out name m)) ms) ms in
    omega (arith, long)

module _ (name : List ℕ) (ms : List MessageValue) (m : MessageValue) where
  -- after the name's logout there is nothing
  pub last_told-logout : logs_out name m ≡ true → last_told name (ms ++ m ∷ []) ≡ None
  last_told-logout e = ap (λ l. last_or None (filter (tells name) l)) (after_last-end (logs_out name) ms m e)

  -- a message that is neither of the two says nothing of the name
  pub last_told-other : logs_out name m ≡ false
      → tells name m ≡ false → last_told name (ms ++ m ∷ []) ≡ last_told name ms
  last_told-other e f =
      ap (λ l. last_or None (filter (tells name) l)) (after_last-more (logs_out name) ms m e)
      ∙ ap (last_or None) (filter-snoc_no (tells name) (since_logout name ms) m f)

  -- a message 5 of the name is the last
  pub last_told-told : logs_out name m ≡ false → tells name m ≡ true → last_told name (ms ++ m ∷ []) ≡ Some m
  last_told-told e f =
      ap (λ l. last_or None (filter (tells name) l)) (after_last-more (logs_out name) ms m e)
      ∙ ap (last_or None) (filter-snoc_yes (tells name) (since_logout name ms) m f)
      ∙ last_or-snoc None (filter (tells name) (since_logout name ms)) m

  -- what the place is made of, if the name does not log out
  place-more : logs_out name m ≡ false
      → first_place name (ms ++ m ∷ [])
      ≡ length ms - length (since_logout name ms) + position_or_len (tells name) (since_logout name ms ++ m ∷ [])
  place-more e =
      let since = since_logout name ms in
      ap (λ l. length (ms ++ m ∷ []) - length l + position_or_len (tells name) l)
      (after_last-more (logs_out name) ms m e)
      ∙ ap (λ n. n + position_or_len (tells name) (since ++ m ∷ []))
      {x = length (ms ++ m ∷ []) - length (since ++ m ∷ [])} {y = length ms - length since}
      (omega (arith, length-append ms (m ∷ []), length-append since (m ∷ [])))

  -- the first message 5 of a name that was listed stays the first
  pub first_place-known : logs_out name m ≡ false
      → is_some (last_told name ms) ≡ true → first_place name (ms ++ m ∷ []) ≡ first_place name ms
  first_place-known e told =
      let since = since_logout name ms in
      place-more e ∙ ap (λ n. length ms - length since + n)
      (position-snoc_found (tells name) since m (found_from_last (tells name) since told))

  -- the first message 5 of a new name is this one
  pub first_place-new : logs_out name m ≡ false
      → is_some (last_told name ms) ≡ false → tells name m ≡ true → first_place name (ms ++ m ∷ []) ≡ length ms
  first_place-new e none f =
      let since = since_logout name ms in
      let first : position_or_len (tells name) (since ++ m ∷ []) ≡ length since =
      position-snoc_new (tells name) since m (absent_from_last (tells name) since none) f in
      place-more e ∙ omega (arith, first, since_within name ms)

-- the first message 5 of a name that was listed is in the list
pub first_place-within : (name : List ℕ) (ms : List MessageValue)
    → is_some (last_told name ms) ≡ true → first_place name ms < length ms
first_place-within name ms told =
    omega (arith, since_within name ms, found_from_last (tells name) (since_logout name ms) told)
