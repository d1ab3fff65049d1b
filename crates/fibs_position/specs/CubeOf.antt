-- Who may double next, as a board shows it (FIBS board style 3).
use Rattle.std.specs.Prelude.{◌||◌, ◌&&◌, ℕ, ℤ, pos, int_le, Bool, if◌then◌else◌}
use Rattle.std.specs.Ordering.{int_eq}
use Rattle.fibs_fields.specs.Board.{BoardFields, field_of}
use Rattle.fibs_position.specs.declared.cube.CubeOwner.{CubeOwner}
use Rattle.fibs_position.specs.declared.cube.CubeOwner.TheVariants as C

-- whether the opponent may double next if the player may not, by his flag, whether he has just doubled, and the cube:
-- if he has just doubled with a cube of his own, he keeps it until that is answered
abbrev pub is_opponents : ℤ → ℤ → ℤ → Bool
is_opponents other_may doubled cube =
    int_eq other_may (pos 1) || (int_eq doubled (pos 1) && int_le (pos 2) cube)

-- who may double next, by the flags of both, whether the opponent has just doubled, and the cube
abbrev pub owner_by : ℤ → ℤ → ℤ → ℤ → CubeOwner
owner_by may other_may doubled cube =
    if int_eq may (pos 1) then (if int_eq other_may (pos 1) then C.Middle else C.Player)
    else if is_opponents other_may doubled cube then C.Opponent else C.Nobody

-- of a board
abbrev pub cube_owner : BoardFields → CubeOwner
cube_owner b = owner_by (field_of b 39) (field_of b 40) (field_of b 41) (field_of b 38)

-- the number of each
abbrev pub owner_number : CubeOwner → ℕ
owner_number C.Nobody = 0
owner_number C.Player = 1
owner_number C.Opponent = 2
owner_number C.Middle = 3
