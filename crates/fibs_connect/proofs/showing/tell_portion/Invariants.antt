use Rattle.std.proofs.Common.{length}
use Rattle.fibs_connect.proofs.showing.tell_portion.Given as goal

abbrev pub decreases-loop-rest : goal.decreases-loop-rest
decreases-loop-rest g l = length l.rest
