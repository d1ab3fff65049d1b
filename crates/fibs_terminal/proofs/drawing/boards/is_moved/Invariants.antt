use Rattle.std.proofs.Common.{◌≡◌, ◌<◌, ◌≤◌, ℕ}
use Rattle.fibs_fields.specs.Board.{field_of}
use Rattle.fibs_fields.specs.StoredBoard.{fields_of}
use Rattle.fibs_terminal.proofs.drawing.boards.is_moved.Given as goal

-- the places that were looked at are the same
abbrev pub invariant-loop-number : goal.invariant-loop-number
invariant-loop-number l = (k : ℕ) → 7 ≤ k → k < l.number → field_of (fields_of l.a) k ≡ field_of (fields_of l.b) k
