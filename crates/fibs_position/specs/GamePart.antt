-- Which part of a board is the game.
use Rattle.std.specs.Prelude.{◌≡◌, ◌≢◌, ◌+◌, ◌-◌, ◌++◌, ◌&&◌, ℕ, ℤ, Bool, true, false, List, [], ◌∷◌, map}
use Rattle.std.specs.Ordering.{int_eq}
use Rattle.std.specs.Str.{bytes_eq}
use Rattle.std.specs.List.{range_with_len}
use Rattle.fibs_fields.specs.Board.{BoardFields, field_of}

-- the numbers from the first to the last
abbrev pub from_to : ℕ → ℕ → List ℕ
from_to first last = range_with_len first (last + 1 - first)

-- the opponent's name (field 3), and the fields that say what is played and the state of the game: match length and
-- scores, places 1 to 24, turn, dice, cube, who may double, colour, direction, and the checkers borne off
unfoldable pub game_fields : List ℕ
game_fields = from_to 4 6 ++ from_to 8 31 ++ from_to 33 43 ++ from_to 46 47

-- the opponent and the numbers of these fields
pub record GamePart : Type 0 where
  pub opponent : List ℕ
  pub numbers : List ℤ

-- the game part of a board
abbrev pub game_part : BoardFields → GamePart
game_part b = record { opponent = b.opponent; numbers = map (field_of b) game_fields }

-- two boards differ if their game parts do
abbrev pub Differ : BoardFields → BoardFields → Type 0
Differ a b = game_part a ≢ game_part b

-- two boards have the same numbers in the fields from the first to the last
abbrev pub Agree : BoardFields → BoardFields → ℕ → ℕ → Type 0
Agree a b first last = map (field_of a) (from_to first last) ≡ map (field_of b) (from_to first last)

-- ---- the same as a test

-- two lists of numbers are equal
abbrev pub ints_eq : List ℤ → List ℤ → Bool
ints_eq [] [] = true
ints_eq [] (y ∷ ys) = false
ints_eq (x ∷ xs) [] = false
ints_eq (x ∷ xs) (y ∷ ys) = int_eq x y && ints_eq xs ys

-- two game parts are equal
abbrev pub same_part : GamePart → GamePart → Bool
same_part p q = bytes_eq p.opponent q.opponent && ints_eq p.numbers q.numbers

-- two boards have the same game part: they do not differ
unfoldable pub same_game : BoardFields → BoardFields → Bool
same_game a b = same_part (game_part a) (game_part b)
