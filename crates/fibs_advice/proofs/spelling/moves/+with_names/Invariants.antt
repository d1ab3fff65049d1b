use Rattle.std.proofs.Common.{length}
use Rattle.fibs_advice.proofs.spelling.moves.+with_names.Given as goal

abbrev pub decreases-with_names : goal.decreases-with_names
decreases-with_names l = length l.text.now
