-- Which turns of a game are kept, and who has rolled on a board (the project's own).
use Rattle.std.specs.Prelude.{ℕ, nat_lt, Option, Some, None, if◌then◌else◌}
use Rattle.fibs_fields.specs.Board.{BoardFields, field_of}
use Rattle.fibs_fields.specs.FieldReading.{natural}
use Rattle.fibs_position.specs.NumbersOf.{counted}
use Rattle.fibs_position.specs.Phases.{phase_of}
use Rattle.fibs_position.specs.declared.direction.Direction.{Direction}
use Rattle.fibs_position.specs.declared.direction.Direction.TheVariants.{Up}
use Rattle.fibs_position.specs.declared.numbers.Numbers.{Numbers}
use Rattle.fibs_position.specs.declared.numbers.Numbers.TheVariants.{TheServers, TheOwn}
use Rattle.fibs_position.specs.declared.phase.Phase.{Phase}
use Rattle.fibs_position.specs.declared.phase.Phase.TheVariants as P
use Rattle.fibs_advice.specs.declared.hits.Roller.{Roller}
use Rattle.fibs_advice.specs.declared.hits.Roller.TheVariants.{Own, Other}
use Rattle.fibs_terminal.specs.KeptLists.{KeepsLast}
use Rattle.fibs_terminal.specs.declared.story.Story.{Story}
use Rattle.fibs_terminal.specs.declared.story.turn.PlayedTurn.{PlayedTurn}

-- who has rolled and not played, in a phase: the opponent if a die of his is shown
abbrev pub roller_in : Phase → ℕ → Option Roller
roller_in P.Move die = Some Own
roller_in P.Passing die = Some Own
roller_in P.OpponentActs die = if nat_lt 0 die then Some Other else None
roller_in P.Over die = None
roller_in P.AnswerDouble die = None
roller_in P.RollOrDouble die = None

-- the same on a board
abbrev pub roller_on : BoardFields → Option Roller
roller_on b = roller_in (phase_of b) (natural (field_of b 36))

-- which way he goes by the numbers that the user reads: by the user's own his opponent goes up
abbrev pub way_of : Roller → Numbers → Direction → Direction
way_of Other TheOwn direction = Up
way_of Other TheServers direction = direction
way_of Own numbers direction = counted numbers direction

-- one more turn is kept: the last 500 of all are
abbrev pub KeepsTurn : Story → PlayedTurn → Story → Type 0
KeepsTurn old turn new = KeepsLast 500 old.turns.items turn new.turns.items
