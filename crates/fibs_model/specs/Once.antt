-- A decision takes effect at most once, of backgammon.
use Rattle.std.specs.Prelude.{ℕ, List}
use Rattle.fibs_fields.specs.Board.{BoardFields}
use Rattle.fibs_game.specs.Once as A
use Rattle.fibs_session.specs.Fibs.{fibs}
use Rattle.fibs_model.specs.Events.{Event}
use Rattle.fibs_model.specs.World.{World}
pub use Rattle.fibs_game.specs.Once.{taken_by, taken_on, NoneOwn}

-- no two of the boards are of the same game
abbrev pub NoTwoAlike : List BoardFields → Type 0
NoTwoAlike = A.NoTwoAlike fibs

-- the server's board stays as it is, and no decision is noted as one that took effect
abbrev pub Leaves : World → World → Type 0
Leaves w w' = A.Leaves w w'

-- a decision takes effect on the server's board
abbrev pub Takes : World → World → Event → Type 0
Takes w w' e = A.Takes w w' e

-- of the decisions that took effect between one world and a later one, no two did so on boards of the same game
abbrev pub TakesOnce : World → World → Type 0
TakesOnce w w' = A.TakesOnce w w'

-- While the user decides on the server's board, an event that is accepted leaves that board as it is, or one decision
-- takes effect on it.
abbrev pub OneStep : Type 0
OneStep = A.OneStep fibs

-- Of the decisions that take effect, on whatever connections, no two do so on boards of the same game, unless a board
-- of the server's own comes between them.
abbrev pub Once : List ℕ → BoardFields → List Event → Type 0
Once login first events = A.Once login first events

-- it holds of every list of events
abbrev pub OnceHolds : Type 0
OnceHolds = A.OnceHolds fibs
