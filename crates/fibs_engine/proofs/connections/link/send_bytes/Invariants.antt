use Rattle.std.proofs.Common.{◌≡◌, ◌++◌, ℕ, List, length}
use Rattle.std.specs.Io.KnownBytes.{Appends, Keeps}
use Rattle.fibs_engine.proofs.connections.link.send_bytes.Given as goal

-- a front is written, and the rest is left
abbrev pub invariant-loop-rest : goal.invariant-loop-rest
invariant-loop-rest g l = (front : List ℕ) × (l.bytes ≡ front ++ l.rest)
    × Appends (g.S.Write.contents l.initial.stream) (g.S.Write.contents l.stream) front
    × Keeps (g.S.Read.remaining l.initial.stream) (g.S.Read.remaining l.stream)

abbrev pub decreases-loop-rest : goal.decreases-loop-rest
decreases-loop-rest g l = length l.rest
