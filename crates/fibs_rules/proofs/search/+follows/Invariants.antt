use Rattle.std.proofs.Common.{length}
use Rattle.fibs_rules.proofs.search.+follows.Given as goal

abbrev pub decreases-follows : goal.decreases-follows
decreases-follows l = length l.dice.now
