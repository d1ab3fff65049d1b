use Rattle.std.proofs.Common.{◌≡◌, ℕ, ◌≤◌, ◌<◌}
use Rattle.fibs_fields.specs.Board.{field_of}
use Rattle.fibs_fields.specs.StoredBoard.{fields_of}
use Rattle.fibs_events.proofs.finding.has_same_places.Given as goal

abbrev pub invariant-loop-n : goal.invariant-loop-n
invariant-loop-n l =
    (m : ℕ) → 8 ≤ m → m < l.n → field_of (fields_of l.a) m ≡ field_of (fields_of l.b) m
