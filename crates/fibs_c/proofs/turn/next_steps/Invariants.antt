use Rattle.std.proofs.Common.{◌≡◌, ◌⊎◌, ◌<◌, ◌≤◌, ◌+◌, ◌*◌, ℕ, Some}
use Rattle.std.specs.List.{Contains}
use Rattle.fibs_position.specs.GameOf.{game_of}
use Rattle.fibs_rules.specs.Hop.{Hop}
use Rattle.fibs_rules.specs.PlayValue.{hops_of}
use Rattle.fibs_c.specs.TurnDoor.{IsNextBy, next_in, step_by}
use Rattle.fibs_c.proofs.turn.next_steps.Given as goal

-- those that were told are next steps, and those from the places that were passed were told
abbrev pub invariant-loop-passed : goal.invariant-loop-passed
invariant-loop-passed l =
    (l.told.count ≤ 2 * l.passed)
    × ((s : Hop) → Contains (next_in l.told) s → IsNextBy l.left (game_of l.game) (hops_of l.made) s)
    × ((s : Hop) (die : ℕ) → (die ≡ l.first) ⊎ (die ≡ l.second) → step_by s.source die ≡ Some s → s.source ≤ 25
    → 25 < s.source + l.passed → IsNextBy l.left (game_of l.game) (hops_of l.made) s → Contains (next_in l.told) s)
