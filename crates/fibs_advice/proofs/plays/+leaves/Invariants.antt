use Rattle.std.proofs.Common.{length}
use Rattle.fibs_advice.proofs.plays.+leaves.Given as goal

abbrev pub decreases-leaves : goal.decreases-leaves
decreases-leaves l = length l.steps.now
