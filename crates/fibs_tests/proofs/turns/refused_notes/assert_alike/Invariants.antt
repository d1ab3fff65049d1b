use Rattle.std.proofs.Common.{true}
use Rattle.fibs_connect.specs.Turns.Turn.{FitsStream}
use Rattle.fibs_tests.proofs.turns.refused_notes.assert_alike.Given as goal

-- both clients are online
abbrev pub invariant-loop-row : goal.invariant-loop-row
invariant-loop-row g l = (FitsStream l.seat.client true) × (FitsStream l.twin.client true)
