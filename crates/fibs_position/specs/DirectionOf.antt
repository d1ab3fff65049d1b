-- Directions (FIBS board style 3, field 43).
use Rattle.std.specs.Prelude.{◌-◌, ℕ, negsuc, if◌then◌else◌}
use Rattle.std.specs.Ordering.{int_eq}
use Rattle.fibs_fields.specs.Board.{BoardFields, field_of}
use Rattle.fibs_position.specs.declared.direction.Direction.{Direction}
use Rattle.fibs_position.specs.declared.direction.Direction.TheVariants.{Down, Up}

-- the player goes from place 24 down to 1 if the field is -1, and else from 1 up to 24
abbrev pub direction_of : BoardFields → Direction
direction_of b = if int_eq (field_of b 43) (negsuc 0) then Down else Up

-- the line's number of a place, which the player counts so as to go down: a player who goes down counts as the line
-- does, a player who goes up from the other end
abbrev pub line_place : Direction → ℕ → ℕ
line_place Down place = place
line_place Up place = 25 - place
