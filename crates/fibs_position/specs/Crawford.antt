-- The one game in which nobody doubles: the first after a side has come to one point less than the match has (the
-- Crawford rule), as far as a board shows it.
use Rattle.std.specs.Prelude.{◌&&◌, ℤ, pos, ◌-ℤ◌, int_le, Bool, not, true, false, if◌then◌else◌}
use Rattle.std.specs.Ordering.{int_eq}
use Rattle.fibs_fields.specs.Board.{BoardFields, field_of}
use Rattle.fibs_position.specs.CubeOf.{cube_owner}
use Rattle.fibs_position.specs.declared.cube.CubeOwner.{CubeOwner}
use Rattle.fibs_position.specs.declared.cube.CubeOwner.TheVariants as C

-- a side has one point to go in a match of more than one, which is not unlimited: 9999 is no length
abbrev pub lacks_one : ℤ → ℤ → Bool
lacks_one length score = int_le (pos 2) length && (not (int_eq length (pos 9999)) && int_eq score (length -ℤ pos 1))

-- just one of two sides has
abbrev pub one_side_lacks_one : ℤ → ℤ → ℤ → Bool
one_side_lacks_one length own other =
    if lacks_one length own then not (lacks_one length other) else lacks_one length other

-- nobody may double
abbrev pub is_nobodys : CubeOwner → Bool
is_nobodys C.Nobody = true
is_nobodys owner = false

-- nobody may double, the cube shows 1, and the opponent has not just doubled, by who may double, the cube, and that
abbrev pub is_quiet_cube : CubeOwner → ℤ → ℤ → Bool
is_quiet_cube owner cube doubled = is_nobodys owner && (int_eq cube (pos 1) && not (int_eq doubled (pos 1)))

-- of a board
abbrev pub has_quiet_cube : BoardFields → Bool
has_quiet_cube b = is_quiet_cube (cube_owner b) (field_of b 38) (field_of b 41)

-- the game is that of the Crawford rule, as far as a board shows it
abbrev pub is_crawford : BoardFields → Bool
is_crawford b = has_quiet_cube b && one_side_lacks_one (field_of b 4) (field_of b 5) (field_of b 6)
