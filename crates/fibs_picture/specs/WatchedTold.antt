-- What the words of a board say that the user watches.
use Rattle.std.specs.Prelude.{◌≡◌, [], ◌∷◌, map, take}
use Rattle.fibs_fields.specs.Board.{BoardFields, field_of}
use Rattle.fibs_position.specs.DirectionOf.{direction_of}
use Rattle.fibs_position.specs.OwnView.{own_view}
use Rattle.fibs_position.specs.declared.numbers.Numbers.{Numbers}
use Rattle.fibs_position.specs.declared.numbers.Numbers.TheVariants.{TheServers}
use Rattle.fibs_picture.specs.Told.{whose_turn}

-- two boards are the same to who watches them with these numbers
pub record SameToTheWatcher (n : Numbers) (a b : BoardFields) : Type 0 where
  pub arrangement : own_view a ≡ own_view b
  -- a player's own numbers are the same on each board
  pub direction : n ≡ TheServers → direction_of a ≡ direction_of b
  pub turn : whose_turn a ≡ whose_turn b
  -- the player's and the opponent's
  pub dice : map (field_of a) (34 ∷ 35 ∷ 36 ∷ 37 ∷ []) ≡ map (field_of b) (34 ∷ 35 ∷ 36 ∷ 37 ∷ [])
  pub cube : field_of a 38 ≡ field_of b 38
  -- the player may double, the opponent may
  pub doublers : map (field_of a) (39 ∷ 40 ∷ []) ≡ map (field_of b) (39 ∷ 40 ∷ [])
  -- the player's and the opponent's
  pub scores : map (field_of a) (5 ∷ 6 ∷ []) ≡ map (field_of b) (5 ∷ 6 ∷ [])
  pub match_length : field_of a 4 ≡ field_of b 4
  -- as much of both names as is shown
  pub player : take 30 a.player ≡ take 30 b.player
  pub opponent : take 30 a.opponent ≡ take 30 b.opponent
