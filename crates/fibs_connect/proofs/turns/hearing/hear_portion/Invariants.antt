use Rattle.std.proofs.Common.{◌≡◌, ◌++◌, ℕ, List, length}
use Rattle.std.specs.Io.KnownBytes.{Keeps}
use Rattle.fibs_session.specs.History.Machine.{Talk}
use Rattle.fibs_session.specs.Calls.Standing.{StandsAfter}
use Rattle.fibs_connect.specs.Turns.Script.{outside}
use Rattle.fibs_connect.proofs.TurnLemmas.Turns.{Gone}
use Rattle.fibs_connect.proofs.turns.hearing.hear_portion.Given as goal

-- a front is fed, and what its lines call for is done
abbrev pub invariant-loop-rest : goal.invariant-loop-rest
invariant-loop-rest g l = (front : List ℕ) × (l.portion ≡ front ++ l.rest)
    × ((t : Talk) → StandsAfter l.initial.client t → Gone g.F.Front.tells t l.client front
    (outside (g.S.Write.contents l.initial.stream) l.initial.front l.initial.directory)
    (outside (g.S.Write.contents l.stream) l.front l.directory))
    × Keeps (g.S.Read.remaining l.initial.stream) (g.S.Read.remaining l.stream)

abbrev pub decreases-loop-rest : goal.decreases-loop-rest
decreases-loop-rest g l = length l.rest
