use Rattle.std.proofs.Common.{length}
use Rattle.fibs_advice.proofs.changes.+append_stacks.Given as goal

abbrev pub decreases-append_stacks : goal.decreases-append_stacks
decreases-append_stacks l = length l.places.now
