-- The rows of a board in words: which they are, which of them is left out, and how they are broken (the project's own).
use Rattle.std.specs.Prelude.{◌≡◌, ◌≤◌, ◌⊎◌, ◌==◌, ◌&&◌, ◌++◌, ℕ, Bool, true, false, not, List, [], ◌∷◌, Option, Some, None, is_none, length, take, drop, if◌then◌else◌}
use Rattle.std.specs.List.{flat_map, list_all, range_with_len, AllByRecursion}
use Rattle.std.specs.Str.{bytes_eq}
use Rattle.fibs_fields.specs.Board.{BoardFields}
use Rattle.fibs_position.specs.NumbersOf.{counted}
use Rattle.fibs_position.specs.PositionValue.{position_of}
use Rattle.fibs_position.specs.declared.numbers.Numbers.{Numbers}
use Rattle.fibs_picture.specs.Fits.{ended}
use Rattle.fibs_picture.specs.InWords.Watched.{against_row, named_row}
use Rattle.fibs_picture.specs.InWords.Words.{row}
use Rattle.fibs_picture.specs.declared.in_words.fact.Fact.{Fact}
use Rattle.fibs_picture.specs.declared.in_words.fact.Fact.TheVariants as F

-- ---- which rows there are

-- the fact that is told after so many others
abbrev pub fact_at : ℕ → Fact
fact_at i =
    if i == 0 then F.Turn
    else (if i == 1 then F.Dice
    else (if i == 2 then F.Score
    else (if i == 3 then F.Cube
    else (if i == 4 then F.Way
    else (if i == 5 then F.Own
    else (if i == 6 then F.Other
    else (if i == 7 then F.Held else F.Blots)))))))

-- the row of a fact on a board of the user's own, or on one that he watches
unfoldable pub row_of : Bool → Numbers → BoardFields → Fact → List ℕ
row_of watched n b fact =
    let p = position_of b in let d = counted n p.direction in
    if watched then named_row d b p (take 30 b.player) (take 30 b.opponent) fact else row d b p fact

-- a fact is told again only if its row is another one than before
abbrev pub is_lasting : Fact → Bool
is_lasting F.Turn = false
is_lasting F.Dice = false
is_lasting F.Score = true
is_lasting F.Cube = true
is_lasting F.Way = true
is_lasting F.Own = false
is_lasting F.Other = false
is_lasting F.Held = true
is_lasting F.Blots = true

-- a row is left out: the same was told of the board before
abbrev pub is_left_out : Option (Fact → List ℕ) → Fact → List ℕ → Bool
is_left_out None fact now = false
is_left_out (Some before) fact now = is_lasting fact && bytes_eq (before fact) now

-- a row of a fact with its end, if it is told
abbrev pub told_row : Option (Fact → List ℕ) → (Fact → List ℕ) → Fact → List ℕ
told_row before rows fact = if is_left_out before fact (rows fact) then [] else ended (rows fact)

-- the rows of so many facts of a board, after those that were told before
unfoldable pub told_rows : Option (Fact → List ℕ) → (Fact → List ℕ) → ℕ → List ℕ
told_rows before rows many = flat_map (λ i. told_row before rows (fact_at i)) (range_with_len 0 many)

-- who plays, if the board is watched and none was told before
abbrev pub players_row : Option (Fact → List ℕ) → Bool → BoardFields → List ℕ
players_row before watched b =
    if watched && is_none before then ended (against_row (take 30 b.player) (take 30 b.opponent)) else []

-- a board in words, by what was told of the one before
unfoldable pub words : Option (Fact → List ℕ) → Bool → Numbers → BoardFields → List ℕ
words before watched n b = players_row before watched b ++ told_rows before (row_of watched n b) 9

-- ---- rows that are broken

-- the first byte that is no line end is a space
abbrev pub goes_on : List ℕ → Bool
goes_on [] = false
goes_on (x ∷ xs) = if x == 10 then goes_on xs else x == 32

-- the rows joined again: no line end is left before a space
abbrev pub rejoined : List ℕ → List ℕ
rejoined [] = []
rejoined (x ∷ xs) = if (x == 10) && goes_on xs then rejoined xs else x ∷ rejoined xs

-- a row has room in so many columns, or it is one word, behind a space if it goes on
abbrev pub HasRoom : ℕ → List ℕ → Type 0
HasRoom columns row = (length row ≤ columns) ⊎ (list_all (λ x. not (x == 32)) (drop 1 row) ≡ true)

-- a text with the end of its last row, if it has a row
abbrev pub all_ended : List ℕ → List ℕ
all_ended [] = []
all_ended (x ∷ []) = if x == 10 then x ∷ [] else x ∷ 10 ∷ []
all_ended (x ∷ y ∷ xs) = x ∷ all_ended (y ∷ xs)

-- a text in rows that have room: they are broken at spaces only, and one that goes on begins with its space
pub record IsBroken (columns : ℕ) (text broken : List ℕ) : Type 0 where
  pub joined : rejoined broken ≡ rejoined text
  pub rows : (lines : List (List ℕ)) × AllByRecursion (HasRoom columns) lines × (broken ≡ flat_map ended lines)

-- a text is said: it comes behind what is there, in rows that have room
abbrev pub Says : ℕ → List ℕ → List ℕ → List ℕ → Type 0
Says columns text before after = (said : List ℕ) × IsBroken columns (all_ended text) said × (after ≡ before ++ said)
