-- What has happened between two boards of the user's game (the project's own).
use Rattle.std.specs.Prelude.{◌≡◌, ◌==◌, ℕ, List, [], ◌∷◌, Option, Some, None, true, if◌then◌else◌}
use Rattle.fibs_fields.specs.Board.{BoardFields, field_of}
use Rattle.fibs_fields.specs.FieldReading.{natural}
use Rattle.fibs_events.specs.Mirrored.{mirrored}
use Rattle.fibs_events.specs.Played.{IsPlayed, NoneIsPlayed}
use Rattle.fibs_events.specs.declared.event.Side.{Side}
use Rattle.fibs_events.specs.declared.event.Side.TheVariants as S
use Rattle.fibs_events.specs.declared.happened.Happened.{Happened}
use Rattle.fibs_events.specs.declared.happened.Rolled.{Rolled}
use Rattle.fibs_position.specs.GoodBoard.{good}
use Rattle.fibs_position.specs.Phases.{phase_of}
use Rattle.fibs_position.specs.PositionValue.{position_of}
use Rattle.fibs_position.specs.declared.phase.Phase.{Phase}
use Rattle.fibs_position.specs.declared.phase.Phase.TheVariants as P
use Rattle.fibs_rules.specs.Hop.{Hop}
use Rattle.fibs_rules.specs.LegalPlays.{LegalPlay}

-- a board as a side sees it
abbrev pub seen_by : Side → BoardFields → BoardFields
seen_by S.Own b = b
seen_by S.Other b = mirrored b

-- who has rolled and not played in a phase, if the opponent's first die is this
abbrev pub roller_in : Phase → ℕ → Option Side
roller_in P.Move die = Some S.Own
roller_in P.Passing die = Some S.Own
roller_in P.OpponentActs die = if die == 0 then None else Some S.Other
roller_in phase die = None

-- who has rolled and not played on a board
abbrev pub roller_of : BoardFields → Option Side
roller_of b = roller_in (phase_of b) (natural (field_of b 36))

-- a play of a side leads from a board to another: as this side sees them
abbrev pub PlayedBy : Side → BoardFields → List Hop → BoardFields → Type 0
PlayedBy side before steps after = IsPlayed (seen_by side before) steps (seen_by side after)

-- the same from the board that is known, if one is
abbrev pub PlayedFrom : Option BoardFields → Side → List Hop → BoardFields → Type 0
PlayedFrom None side steps after = ⊥
PlayedFrom (Some before) side steps after = PlayedBy side before steps after

-- no play of the side that has rolled leads from a board to another
abbrev pub NonePlayed : BoardFields → BoardFields → Type 0
NonePlayed before after =
    (side : Side) → roller_of before ≡ Some side → good (seen_by side before) ≡ true
    → NoneIsPlayed (seen_by side before) (seen_by side after)

-- a play of a side is legal on the board that is known, as this side sees it
abbrev pub LegalFrom : Option BoardFields → Side → List Hop → Type 0
LegalFrom None side steps = ⊥
LegalFrom (Some b) side steps = LegalPlay (position_of (seen_by side b)).standing steps

-- the dice that a board shows of a side
abbrev pub dice_of : Side → BoardFields → List ℕ
dice_of S.Own b = natural (field_of b 34) ∷ natural (field_of b 35) ∷ []
dice_of S.Other b = natural (field_of b 36) ∷ natural (field_of b 37) ∷ []

-- a roll is what a board shows: the dice of the side that has rolled there and not played
abbrev pub RollShown : BoardFields → Rolled → Type 0
RollShown b rolled = (roller_of b ≡ Some rolled.who) × (rolled.dice ≡ dice_of rolled.who b)

-- nothing has happened
abbrev pub nothing : Happened
nothing = record {
  said = None;
  played = None;
  doubled = None;
  accepted = None;
  rolled = None;
  won = None;
  won_match = None;
}
