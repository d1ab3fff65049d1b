use Rattle.std.proofs.Common.{◌-◌}
use Rattle.fibs_messages.proofs.message.OwnInfoDebug.fmt.Given as goal

abbrev pub decreases-loop-at : goal.decreases-loop-at
decreases-loop-at g l = 21 - l.at
