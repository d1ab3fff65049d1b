use Rattle.std.proofs.Common.{◌≡◌, ℕ, List, ◌++◌, length}
use Rattle.fibs_session.specs.History.Machine.{Piece}
use Rattle.fibs_session.specs.Calls.Writing.{Writes}
use Rattle.fibs_session.proofs.client.run.hear_all.Given as goal

-- some bytes are done
abbrev pub invariant-loop-rest : goal.invariant-loop-rest
invariant-loop-rest l = (done : List ℕ)
    × (l.fn.piece ≡ done ++ l.rest) × Writes l.fn.client l.client (Piece done) l.fn.out.items l.out.items

abbrev pub decreases-loop-rest : goal.decreases-loop-rest
decreases-loop-rest l = length l.rest
