use Rattle.std.proofs.Common.{length}
use Rattle.fibs_engine.proofs.connections.pacing.Paced.hear.Given as goal

abbrev pub decreases-loop-rest : goal.decreases-loop-rest
decreases-loop-rest g l = length l.rest
