-- Boards that have a position.
use Rattle.std.specs.Prelude.{◌≡◌, ◌≢◌, ◌<◌, ◌≤◌, ◌&&◌, Bool, List, [], ◌∷◌, codes, nat_le}
use Rattle.std.specs.Str.{bytes_eq}
use Rattle.fibs_fields.specs.Board.{BoardFields, IsBoard, is_board}
use Rattle.fibs_position.specs.OwnView.{own_placed, other_placed}
use Rattle.fibs_position.specs.declared.position_fault.PositionFault.{PositionFault}
use Rattle.fibs_position.specs.declared.position_fault.PositionFault.TheVariants.{NotYou, TooManyOwn, TooManyOther}

-- a board of a game in which the user plays, and neither side has more than fifteen checkers on places 1 to 24 and off
pub record IsGood (b : BoardFields) : Type 0 where
  pub board : IsBoard b
  pub plays : b.player ≡ codes "You"
  pub own : own_placed b ≤ 15
  pub other : other_placed b ≤ 15

-- why a board is not good
abbrev pub HasFault : BoardFields → PositionFault → Type 0
HasFault b NotYou = b.player ≢ codes "You"
HasFault b TooManyOwn = 15 < own_placed b
HasFault b TooManyOther = 15 < other_placed b

-- the faults, in the order in which they are named
abbrev pub faults : List PositionFault
faults = NotYou ∷ TooManyOwn ∷ TooManyOther ∷ []

-- the same as a test for all values of fields, also for numbers that no field may have
unfoldable pub good : BoardFields → Bool
good b = is_board b && (bytes_eq b.player (codes "You") && (nat_le (own_placed b) 15 && nat_le (other_placed b) 15))
