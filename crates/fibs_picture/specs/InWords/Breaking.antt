-- How a row is broken, piece by piece. No public contract rests on it.
use Rattle.std.specs.Prelude.{◌≡◌, ◌+◌, ◌++◌, ◌&&◌, ℕ, Bool, List, ◌∷◌, nat_lt, drop, length, if◌then◌else◌}
use Rattle.std.specs.List.{flat_map, AllByRecursion}
use Rattle.fibs_fields.specs.Split as split
use Rattle.fibs_picture.specs.Fits.{ended}
use Rattle.fibs_picture.specs.InWords.Rows.{rejoined, HasRoom}

-- a row up to its second space, or up to its first if it does not begin with one
abbrev pub piece_len : List ℕ → ℕ
piece_len row = 1 + length (split.before 32 (drop 1 row))

-- a piece has no room at this column, and it is not the first of its row
abbrev pub is_over : ℕ → ℕ → List ℕ → Bool
is_over columns column piece = nat_lt 0 column && nat_lt columns (column + length piece)

-- the piece, behind a line end if it has no room
abbrev pub placed : ℕ → ℕ → List ℕ → List ℕ
placed columns column piece = if is_over columns column piece then 10 ∷ piece else piece

-- the column where it ends
abbrev pub ends_at : ℕ → ℕ → List ℕ → ℕ
ends_at columns column piece = if is_over columns column piece then length piece else column + length piece

-- two texts are the same, joined again, wherever they stand
abbrev pub AreAlike : List ℕ → List ℕ → Type 0
AreAlike a b = (before after : List ℕ) → rejoined (before ++ (a ++ after)) ≡ rejoined (before ++ (b ++ after))

-- what is written of a text so far, and the column of the last row
pub record Stands (columns : ℕ) (text written : List ℕ) (column : ℕ) : Type 0 where
  pub joined : AreAlike written text
  pub lines : List (List ℕ)
  pub here : List ℕ
  pub whole : written ≡ flat_map ended lines ++ here
  pub above : AllByRecursion (HasRoom columns) lines
  pub room : HasRoom columns here
  pub width : length here ≡ column

-- whole rows in their room, wherever they stand
pub record Breaks (columns : ℕ) (text written : List ℕ) : Type 0 where
  pub joined : AreAlike written text
  pub rows : (lines : List (List ℕ)) × AllByRecursion (HasRoom columns) lines × (written ≡ flat_map ended lines)

-- such rows were added
abbrev pub AddsRows : ℕ → List ℕ → List ℕ → List ℕ → Type 0
AddsRows columns text before after = (t : List ℕ) × Breaks columns text t × (after ≡ before ++ t)
