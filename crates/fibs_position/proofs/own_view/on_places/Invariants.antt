use Rattle.std.proofs.Common.{◌≡◌, ℕ, ◌+◌, ◌<◌, length, get_or}
use Rattle.fibs_fields.specs.StoredBoard.{fields_of}
use Rattle.fibs_position.specs.OwnView.{stand_on}
use Rattle.fibs_position.proofs.own_view.on_places.Given as goal

abbrev pub invariant-loop-i : goal.invariant-loop-i
invariant-loop-i l =
    (length l.counts ≡ 24) × ((k : ℕ) → k < l.i → get_or l.counts k 0 ≡ stand_on (fields_of l.board) l.side (1 + k))
