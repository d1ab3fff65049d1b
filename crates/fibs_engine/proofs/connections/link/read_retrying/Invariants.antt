use Rattle.std.proofs.Common.{◌≡◌, length}
use Rattle.std.specs.Io.KnownBytes.{Keeps}
use Rattle.fibs_engine.proofs.connections.link.read_retrying.Given as goal

-- a read that is interrupted consumed nothing
abbrev pub invariant-loop : goal.invariant-loop
invariant-loop g l = (length l.buf ≡ length l.initial.buf)
    × Keeps (g.R.Read.remaining l.initial.reader) (g.R.Read.remaining l.reader)
