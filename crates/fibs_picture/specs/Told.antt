-- What the words of a board say of it.
use Rattle.std.specs.Prelude.{◌≡◌, pos, [], ◌∷◌, map, take, if◌then◌else◌}
use Rattle.std.specs.Ordering.{int_eq}
use Rattle.fibs_fields.specs.Board.{BoardFields, field_of}
use Rattle.fibs_position.specs.DirectionOf.{direction_of}
use Rattle.fibs_position.specs.OwnView.{own_view, turn, colour}
use Rattle.fibs_position.specs.Phases.{phase_of}
use Rattle.fibs_position.specs.declared.numbers.Numbers.{Numbers}
use Rattle.fibs_position.specs.declared.numbers.Numbers.TheVariants.{TheServers}

-- one of the two players, or neither
pub data Whose : Type 0 where
  nobodys : Whose
  the_players : Whose
  the_opponents : Whose

-- whose turn it is
abbrev pub whose_turn : BoardFields → Whose
whose_turn b =
    if int_eq (turn b) (pos 0) then nobodys
    else (if int_eq (turn b) (colour b) then the_players else the_opponents)

-- two boards are the same in words with these numbers
pub record SameToTheEye (n : Numbers) (a b : BoardFields) : Type 0 where
  pub arrangement : own_view a ≡ own_view b
  -- the player's own numbers are the same on each board
  pub direction : n ≡ TheServers → direction_of a ≡ direction_of b
  pub turn : whose_turn a ≡ whose_turn b
  -- what the player is to do
  pub phase : phase_of a ≡ phase_of b
  -- the player's and the opponent's
  pub dice : map (field_of a) (34 ∷ 35 ∷ 36 ∷ 37 ∷ []) ≡ map (field_of b) (34 ∷ 35 ∷ 36 ∷ 37 ∷ [])
  pub cube : field_of a 38 ≡ field_of b 38
  -- the player may double, the opponent may
  pub doublers : map (field_of a) (39 ∷ 40 ∷ []) ≡ map (field_of b) (39 ∷ 40 ∷ [])
  -- the player's and the opponent's
  pub scores : map (field_of a) (5 ∷ 6 ∷ []) ≡ map (field_of b) (5 ∷ 6 ∷ [])
  pub match_length : field_of a 4 ≡ field_of b 4
  -- as much of the opponent's name as is shown
  pub opponent : take 30 a.opponent ≡ take 30 b.opponent
