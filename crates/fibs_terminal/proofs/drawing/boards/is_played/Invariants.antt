use Rattle.std.proofs.Common.{◌≡◌, ◌<◌, ◌≤◌, ℕ}
use Rattle.std.specs.Prelude.{slice_index}
use Rattle.fibs_position.specs.GameOf.{game_of}
use Rattle.fibs_position.specs.PositionValue.{position_of}
use Rattle.fibs_terminal.proofs.drawing.boards.is_played.Given as goal

-- both have as many on the places that were looked at
abbrev pub invariant-loop-place : goal.invariant-loop-place
invariant-loop-place l = (k : ℕ) → 1 ≤ k → k < l.place
    → (slice_index (position_of (game_of l.a)).standing.checkers.own k
    ≡ slice_index (position_of (game_of l.b)).standing.checkers.own k)
    × (slice_index (position_of (game_of l.a)).standing.checkers.other k
    ≡ slice_index (position_of (game_of l.b)).standing.checkers.other k)
