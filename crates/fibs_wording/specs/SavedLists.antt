-- Which matches of the user are known to be saved (the project's own).
use Rattle.std.specs.Prelude.{◌≡◌, ◌⊎◌, ◌++◌, ◌∷◌, ◌==◌, ◌≤◌, ◌<◌, ℕ, Bool, not, true, false, List, [], length, Option, Some, None, codes, decimal, if◌then◌else◌}
use Rattle.std.specs.List.{filter, find, slice_split}
use Rattle.std.specs.Str.{bytes_eq}
use Rattle.fibs_wording.specs.declared.saved.SavedMatch.{SavedMatch}

-- what is known of a saved match: the other player, the user's points, the other player's, and the length
pub record KnownMatch : Type 0 where
  pub name : List ℕ
  pub own : ℕ
  pub other : ℕ
  pub length : Option ℕ

-- the same of one that is kept
abbrev pub known_of : SavedMatch → KnownMatch
known_of m = record { name = m.name.items; own = m.own; other = m.other; length = m.length }

-- a match that was saved
abbrev pub match_of : List ℕ → ℕ → ℕ → Option ℕ → KnownMatch
match_of name own other length = record { name = name; own = own; other = other; length = length }

-- a match is with a player
abbrev pub is_with : List ℕ → SavedMatch → Bool
is_with name m = bytes_eq m.name.items name

-- the match with a player
abbrev pub saved_with : List ℕ → List SavedMatch → Option SavedMatch
saved_with name matches = find (is_with name) matches

-- the matches with others
abbrev pub without : List ℕ → List SavedMatch → List SavedMatch
without name matches = filter (λ (m : SavedMatch). not (is_with name m)) matches

-- a match is put behind some
pub record Adds (m : KnownMatch) (old new : List SavedMatch) : Type 0 where
  pub kept : SavedMatch
  pub same : known_of kept ≡ m
  pub last : new ≡ old ++ kept ∷ []

-- a match was saved: it takes the place of what was known of one with its player, if a hundred others are not known
abbrev pub Keeps : KnownMatch → List SavedMatch → List SavedMatch → Type 0
Keeps m old new = ((100 ≤ length (without m.name old)) × (new ≡ without m.name old))
    ⊎ ((length (without m.name old) < 100) × Adds m (without m.name old) new)

-- ---- the list of saved matches

-- the words of a text, between which are spaces
abbrev pub words : List ℕ → List (List ℕ)
words text = filter (λ (word : List ℕ). not (length word == 0)) (slice_split (λ b. b == 32) text)

-- a word in front of others, if it is one
abbrev pub in_front : List ℕ → List (List ℕ) → List (List ℕ)
in_front word others = if length word == 0 then others else word ∷ others

-- the words with which the answer to `show saved` begins
abbrev pub head_words : List (List ℕ)
head_words = codes "opponent" ∷ codes "matchlength" ∷ codes "score" ∷ codes "(your" ∷ codes "points"
    ∷ codes "first)" ∷ []

-- a text is how that answer begins
abbrev pub IsHead : List ℕ → Type 0
IsHead text = words text ≡ head_words

-- a name, in front of which up to two stars say that its player is logged in, and ready
abbrev pub IsStarred : List ℕ → List ℕ → Type 0
IsStarred word name = (word ≡ name) ⊎ ((word ≡ 42 ∷ name) ⊎ (word ≡ 42 ∷ 42 ∷ name))

-- a word says the length of a match, or that it has none
abbrev pub SaysLength : List ℕ → Option ℕ → Type 0
SaysLength word None = (word ≡ codes "unlimited") ⊎ (word ≡ decimal 9999)
SaysLength word (Some length) = word ≡ decimal length

-- a text is a row of that answer: a name, a length, the user's points, a dash, and the other player's points
pub record IsRow (text : List ℕ) (m : KnownMatch) : Type 0 where
  pub first : List ℕ
  pub second : List ℕ
  pub row : words text ≡ in_front first (in_front second (in_front (decimal m.own) (in_front (codes "-")
      (in_front (decimal m.other) []))))
  pub named : IsStarred first m.name
  pub length_said : SaysLength second m.length

-- a text was heard: a match is known by it only if it is a row of a list that is coming, and a list comes only after
-- its head, by which all that was known is forgotten
pub record HearsList (text : List ℕ) (lists : Bool) (old : List SavedMatch) (lists' : Bool) (new : List SavedMatch)
    : Type 0 where
  pub outside : lists ≡ false → (new ≡ old) ⊎ (new ≡ [])
  pub begins : lists ≡ false → lists' ≡ true → IsHead text × (new ≡ [])
  pub ends : lists ≡ true → lists' ≡ false → (new ≡ old) ⊎ (new ≡ [])
  pub goes_on : lists ≡ true → lists' ≡ true
      → (IsHead text × (new ≡ [])) ⊎ ((m : KnownMatch) × IsRow text m × Keeps m old new)
