use Rattle.std.proofs.Common.{length}
use Rattle.fibs_advice.proofs.spelling.moves.+taken_from.Given as goal

abbrev pub decreases-taken_from : goal.decreases-taken_from
decreases-taken_from l = length l.steps.now
