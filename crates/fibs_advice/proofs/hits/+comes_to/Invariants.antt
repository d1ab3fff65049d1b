use Rattle.std.proofs.Common.{length}
use Rattle.fibs_advice.proofs.hits.+comes_to.Given as goal

abbrev pub decreases-comes_to : goal.decreases-comes_to
decreases-comes_to l = length l.steps.now
