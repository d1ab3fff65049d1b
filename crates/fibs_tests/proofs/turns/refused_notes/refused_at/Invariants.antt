use Rattle.std.proofs.Common.{true}
use Rattle.fibs_connect.specs.Turns.Turn.{FitsStream}
use Rattle.fibs_tests.proofs.turns.refused_notes.refused_at.Given as goal

-- the client is online
abbrev pub invariant-loop-at : goal.invariant-loop-at
invariant-loop-at g l = FitsStream l.seat.client true
