use Rattle.std.proofs.Common.{length}
use Rattle.fibs_advice.proofs.spelling.words.+from_first_word.Given as goal

abbrev pub decreases-from_first_word : goal.decreases-from_first_word
decreases-from_first_word l = length l.line.now
