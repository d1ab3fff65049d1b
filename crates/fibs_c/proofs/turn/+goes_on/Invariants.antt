use Rattle.std.proofs.Common.{◌≡◌, ◌<◌, ◌-◌, ◌++◌, ℕ, [], ◌∷◌, Some}
use Rattle.fibs_position.specs.GameOf.{game_of}
use Rattle.fibs_position.specs.OwnView.{first_die, second_die}
use Rattle.fibs_rules.specs.Hop.{Hop}
use Rattle.fibs_rules.specs.PlayValue.{hops_of}
use Rattle.fibs_c.specs.TurnDoor.{GoesOnBy, step_tried}
use Rattle.fibs_c.proofs.turn.+goes_on.Given as goal

-- no move goes on with the steps so far
abbrev pub invariant-loop-number : goal.invariant-loop-number
invariant-loop-number l =
    (n : ℕ) → n < l.number → (step : Hop)
    → step_tried (first_die (game_of l.game)) (second_die (game_of l.game)) n ≡ Some step
    → ¬ GoesOnBy (l.left - 1) (game_of l.game) (hops_of l.play ++ step ∷ [])

abbrev pub decreases-goes_on : goal.decreases-goes_on
decreases-goes_on l = l.left
