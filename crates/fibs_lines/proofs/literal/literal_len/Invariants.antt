use Rattle.std.proofs.Common.{◌-◌, length}
use Rattle.fibs_lines.specs.Progress.{IsLiteralTo}
use Rattle.fibs_lines.proofs.literal.literal_len.Given as goal

-- all that was gone through is literal
abbrev pub invariant-loop-at : goal.invariant-loop-at
invariant-loop-at l = IsLiteralTo l.bytes l.at

abbrev pub decreases-loop-at : goal.decreases-loop-at
decreases-loop-at l = length l.bytes - l.at
