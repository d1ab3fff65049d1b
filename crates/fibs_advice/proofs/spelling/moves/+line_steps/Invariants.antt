use Rattle.std.proofs.Common.{length}
use Rattle.fibs_advice.proofs.spelling.moves.+line_steps.Given as goal

abbrev pub decreases-line_steps : goal.decreases-line_steps
decreases-line_steps l = length l.text.now
