-- Positions as values: what the rules read of a board, seen from its player's side (FIBS board style 3).
use Rattle.std.specs.Prelude.{ℤ}
use Rattle.fibs_fields.specs.Board.{BoardFields, field_of}
use Rattle.fibs_position.specs.DirectionOf.{direction_of}
use Rattle.fibs_position.specs.OwnView.{turn, colour, standing_of}
use Rattle.fibs_rules.specs.Runs.{Standing}
use Rattle.fibs_position.specs.declared.direction.Direction.{Direction}
use Rattle.fibs_position.specs.declared.position.Position.{Position}

-- what the rules read of a board
pub record PositionValue : Type 0 where
  -- the checkers of both sides, and the player's dice
  pub standing : Standing
  -- which way the player goes
  pub direction : Direction
  -- whose turn it is: 1 for O, -1 for X, 0 if the game is over
  pub turn : ℤ
  -- the player's colour: 1 for O, -1 for X
  pub colour : ℤ
  -- 1 if the opponent has just doubled
  pub was_doubled : ℤ
  -- what the doubling cube shows
  pub cube : ℤ
  -- not 0 if the player may double
  pub may_double : ℤ

-- the position of a board
abbrev pub position_of : BoardFields → PositionValue
position_of b = record {
  standing = standing_of b;
  direction = direction_of b;
  turn = turn b;
  colour = colour b;
  was_doubled = field_of b 41;
  cube = field_of b 38;
  may_double = field_of b 39;
}

-- ---- the positions of the program as values

-- what a position keeps
unfoldable pub position_value : Position → PositionValue
position_value p = record {
  standing = p.standing;
  direction = p.direction;
  turn = p.turn;
  colour = p.colour;
  was_doubled = p.was_doubled;
  cube = p.cube;
  may_double = p.may_double;
}
