-- What the rows of a board tell.
use Rattle.std.specs.Prelude.{◌≡◌, ◌++◌, ℕ, List}
use Rattle.fibs_fields.specs.Board.{BoardFields, IsBoard}
use Rattle.fibs_position.specs.DirectionOf.{direction_of}
use Rattle.fibs_position.specs.OwnView.{own_on_places, other_on_places}
use Rattle.fibs_position.specs.PositionValue.{PositionValue, position_of}
use Rattle.fibs_picture.specs.Cell.{board_row, seen_row}
use Rattle.fibs_picture.specs.Look.{HasLetters}
use Rattle.fibs_picture.specs.Marks.{seen}
use Rattle.fibs_picture.specs.declared.cell.Drawn.{Drawn}
use Rattle.fibs_picture.specs.declared.cell.Drawn.TheVariants as D
use Rattle.fibs_picture.specs.declared.cell.Half.{Half}
use Rattle.fibs_picture.specs.declared.cell.Half.TheVariants as half
use Rattle.fibs_picture.specs.declared.look.Look.{Look}
use Rattle.fibs_position.specs.declared.numbers.Numbers.TheVariants as N

-- two boards look the same on the board itself: 24 places, and the numbers at the edges
pub record SameCells (look : Look) (a b : BoardFields) : Type 0 where
  pub own : own_on_places a ≡ own_on_places b
  pub other : other_on_places a ≡ other_on_places b
  pub direction : look.numbers ≡ N.TheServers → direction_of a ≡ direction_of b

-- a row of both is the same
abbrev pub SameRow : Look → BoardFields → BoardFields → Drawn → Type 0
SameRow look a b drawn = seen_row look (position_of a) drawn ≡ seen_row look (position_of b) drawn

-- the five heights of a half
pub record FiveRows (look : Look) (a b : BoardFields) (h : Half) : Type 0 where
  pub first : SameRow look a b (D.Layer h 1)
  pub second : SameRow look a b (D.Layer h 2)
  pub third : SameRow look a b (D.Layer h 3)
  pub fourth : SameRow look a b (D.Layer h 4)
  pub fifth : SameRow look a b (D.Layer h 5)

-- the rows that tell something of the board
pub record AlikeRows (look : Look) (a b : BoardFields) : Type 0 where
  pub upper : FiveRows look a b half.Upper
  pub lower : FiveRows look a b half.Lower
  pub edge : SameRow look a b (D.Edge half.Lower)

-- boards that the eye sees alike look the same, whatever the letters, the numbers, the side and the columns are
abbrev pub CellsTell : Type 0
CellsTell = (look : Look) (a b : BoardFields) → HasLetters look → IsBoard a → IsBoard b → AlikeRows look a b
    → SameCells look a b

-- the eye sees of a row, whatever is marked, its bytes, and then what follows
abbrev pub EyeSees : Type 0
EyeSees = (look : Look) (p : PositionValue) (arrivals : List ℕ) (drawn : Drawn) (rest : List ℕ)
    → HasLetters look
    → seen (board_row look p arrivals drawn ++ rest) ≡ seen_row look p drawn ++ seen rest
