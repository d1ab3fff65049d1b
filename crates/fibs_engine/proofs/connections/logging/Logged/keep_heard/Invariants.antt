use Rattle.std.proofs.Common.{length}
use Rattle.fibs_engine.proofs.connections.logging.Logged.keep_heard.Given as goal

abbrev pub decreases-loop-rest : goal.decreases-loop-rest
decreases-loop-rest g l = length l.rest
