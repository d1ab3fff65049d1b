-- Boards of games that the user watches (FIBS board style 3: field 2 is the name of the player who is watched).
use Rattle.std.specs.Prelude.{◌≡◌, ◌≢◌, ◌≤◌, ◌↔◌, ◌&&◌, not, Bool, true, false, codes, nat_le}
use Rattle.std.specs.Str.{bytes_eq}
use Rattle.fibs_fields.specs.Board.{BoardFields, IsBoard, is_board}
use Rattle.fibs_position.specs.GoodBoard.{good}
use Rattle.fibs_position.specs.OwnView.{own_placed, other_placed}

-- a board on which the user does not play, and neither side has more than fifteen checkers on places 1 to 24 and off
pub record IsWatched (b : BoardFields) : Type 0 where
  pub board : IsBoard b
  pub others : b.player ≢ codes "You"
  pub own : own_placed b ≤ 15
  pub other : other_placed b ≤ 15

-- the same as a test for all values of fields, also for numbers that no field may have
unfoldable pub watched : BoardFields → Bool
watched b =
    is_board b && (not (bytes_eq b.player (codes "You")) && (nat_le (own_placed b) 15 && nat_le (other_placed b) 15))

-- the test `watched` is true of exactly the boards that are watched, of all values of fields
abbrev pub WatchedIsExact : Type 0
WatchedIsExact = (b : BoardFields) → (watched b ≡ true) ↔ IsWatched b

-- a board that is watched is no board of the user's game: nothing is decided on it
abbrev pub WatchedIsNotGood : Type 0
WatchedIsNotGood = (b : BoardFields) → watched b ≡ true → good b ≡ false
