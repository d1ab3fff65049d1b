-- What C gets of a row of the answer to `show saved`, as a server of FIBS writes it: a name, behind stars if its player
-- is logged in, the length of the match, the points of the user, a dash, and those of the opponent.
use Rattle.std.specs.Prelude.{◌≡◌, ◌==◌, ◌&&◌, ℕ, zero, suc, Bool, true, false, nat_eq, nat_lt, List, [], ◌∷◌, length, drop, codes, Option, None, Some, if◌then◌else◌}
use Rattle.std.specs.List.{prefix_len}
use Rattle.std.specs.Str.{bytes_eq}
use Rattle.fibs_fields.specs.Name.{is_name}
use Rattle.fibs_fields.specs.Decimal.{decimal_up_to}
use Rattle.fibs_fields.specs.Split.{after, before}
use Rattle.fibs_c.specs.Records.EventOf.{name_in}
use Rattle.fibs_c.specs.declared.saved.SavedRecord.{SavedRecord}

-- a text without the spaces in front of it
abbrev pub after_spaces : List ℕ → List ℕ
after_spaces text = drop (prefix_len (λ c. c == 32) text) text

-- a text that may be missing
abbrev pub text_or_none : Option (List ℕ) → List ℕ
text_or_none None = []
text_or_none (Some text) = text

-- the first word of a text
abbrev pub first_word : List ℕ → List ℕ
first_word text = before 32 (after_spaces text)

-- what follows it
abbrev pub after_word : List ℕ → List ℕ
after_word text = text_or_none (after 32 (after_spaces text))

-- a word without a star in front of it
abbrev pub after_star : List ℕ → List ℕ
after_star [] = []
after_star (c ∷ word) = if c == 42 then word else c ∷ word

-- a name without its stars: one says that its player is logged in, a second one that he is ready
abbrev pub bare : List ℕ → List ℕ
bare word = after_star (after_star word)

-- how long a match is: 9999 if it is unlimited
abbrev pub length_in : List ℕ → Option ℕ
length_in word = if bytes_eq word (codes "unlimited") then Some 9999 else decimal_up_to 99999999 word

-- the numbers of a row, if each word is one
abbrev pub numbers_of : Option ℕ → Option ℕ → Option ℕ → Option (ℕ × ℕ × ℕ)
numbers_of (Some length) (Some own) (Some other) = Some (length, own, other)
numbers_of length own other = None

-- the numbers of three words
abbrev pub numbers_in : (length own other : List ℕ) → Option (ℕ × ℕ × ℕ)
numbers_in length own other =
    numbers_of (length_in length) (decimal_up_to 99999999 own) (decimal_up_to 99999999 other)

-- nothing but spaces
abbrev pub is_blank : List ℕ → Bool
is_blank text = nat_eq (length (after_spaces text)) 0

-- whether a player is logged in, by the word of his name
abbrev pub there : List ℕ → ℕ
there word = if nat_lt (length (bare word)) (length word) then 1 else 0

-- a row says so, by the word of the name and the numbers
abbrev pub IsRow : SavedRecord → List ℕ → ℕ × ℕ × ℕ → Type 0
IsRow r word (length, own, other) =
    (name_in r.name ≡ bare word) × (r.length ≡ length) × (r.score ≡ own ∷ other ∷ []) × (r.there ≡ there word)

-- the same if it is one, and else no name
abbrev pub IsRowIf : SavedRecord → List ℕ → Bool → Option (ℕ × ℕ × ℕ) → Type 0
IsRowIf r word true (Some numbers) = IsRow r word numbers
IsRowIf r word true None = name_in r.name ≡ []
IsRowIf r word false numbers = name_in r.name ≡ []

-- what five words say, with what follows them
abbrev pub IsOfWords : SavedRecord → (name length own dash other rest : List ℕ) → Type 0
IsOfWords r name length own dash other rest =
    IsRowIf r name ((bytes_eq dash (codes "-") && is_blank rest) && is_name (bare name)) (numbers_in length own other)

-- what follows the first words of a text
abbrev pub after_words : ℕ → List ℕ → List ℕ
after_words zero text = text
after_words (suc n) text = after_words n (after_word text)

-- what a text says
abbrev pub IsSaved : SavedRecord → List ℕ → Type 0
IsSaved r text =
    IsOfWords r (first_word text) (first_word (after_words 1 text)) (first_word (after_words 2 text))
    (first_word (after_words 3 text)) (first_word (after_words 4 text)) (after_words 5 text)
