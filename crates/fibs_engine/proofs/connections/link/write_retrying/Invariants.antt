use Rattle.std.specs.Io.KnownBytes.{Keeps}
use Rattle.fibs_engine.proofs.connections.link.write_retrying.Given as goal

-- a write that is interrupted appended nothing
abbrev pub invariant-loop : goal.invariant-loop
invariant-loop g l = Keeps (g.W.Write.contents l.initial.writer) (g.W.Write.contents l.writer)
