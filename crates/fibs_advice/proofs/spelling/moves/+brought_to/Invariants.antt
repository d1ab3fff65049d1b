use Rattle.std.proofs.Common.{length}
use Rattle.fibs_advice.proofs.spelling.moves.+brought_to.Given as goal

abbrev pub decreases-brought_to : goal.decreases-brought_to
decreases-brought_to l = length l.steps.now
