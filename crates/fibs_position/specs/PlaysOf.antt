-- The plays of a position, and of a board.
use Rattle.std.specs.Prelude.{◌≡◌, List, []}
use Rattle.fibs_fields.specs.Board.{BoardFields}
use Rattle.fibs_rules.specs.Hop.{Hop}
use Rattle.fibs_rules.specs.LegalPlays.{PlayList}
use Rattle.fibs_position.specs.PositionValue.{PositionValue, position_of}
use Rattle.fibs_position.specs.Phases.{InPhase}
use Rattle.fibs_position.specs.declared.phase.Phase.TheVariants.{Move}

-- in the phase of moving, for each arrangement that a legal play reaches the greatest such play, in descending order;
-- in every other phase none
pub record PlaysIn (p : PositionValue) (plays : List (List Hop)) : Type 0 where
  pub move : InPhase p Move → PlayList p.standing plays
  pub other : ¬ InPhase p Move → plays ≡ []

-- the plays of a board are those of its position
abbrev pub ArePlays : BoardFields → List (List Hop) → Type 0
ArePlays b plays = PlaysIn (position_of b) plays
