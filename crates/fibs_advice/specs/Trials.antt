-- A move that the user looks at before it is sent (the project's own).
use Rattle.std.specs.Prelude.{ℕ, List}
use Rattle.fibs_fields.specs.Board.{BoardFields}
use Rattle.fibs_position.specs.DecisionValue.{DecisionValue, move}
use Rattle.fibs_position.specs.DirectionOf.{direction_of}
use Rattle.fibs_position.specs.GameOf.{game_of}
use Rattle.fibs_position.specs.NumbersOf.{counted}
use Rattle.fibs_position.specs.PositionValue.{position_of}
use Rattle.fibs_position.specs.declared.numbers.Numbers.{Numbers}
use Rattle.fibs_rules.specs.PlayValue.{hops_of}
use Rattle.fibs_advice.specs.Changes.{changes_text}
use Rattle.fibs_advice.specs.declared.trial.Trial.{Trial}

-- the board on which it is tried
abbrev pub tried_on : Trial → BoardFields
tried_on t = game_of t.before

-- the decision that is tried
abbrev pub tried : Trial → DecisionValue
tried t = move (hops_of t.play)

-- what it changes, in words, if it leads to this board
abbrev pub changes_of : Numbers → Trial → BoardFields → List ℕ
changes_of numbers t b =
    changes_text (counted numbers (direction_of (tried_on t))) (tried_on t).opponent
    (position_of (tried_on t)).standing.checkers (hops_of t.play) (position_of b).standing.checkers
