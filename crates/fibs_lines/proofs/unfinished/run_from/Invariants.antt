use Rattle.std.proofs.Common.{◌≤◌, length, take}
use Rattle.fibs_lines.specs.Progress.{IsRun}
use Rattle.fibs_lines.proofs.unfinished.run_from.Given as goal

-- nothing interrupts what was gone through
abbrev pub invariant-loop-at : goal.invariant-loop-at
invariant-loop-at l = record {
  in_range : l.at ≤ length l.bytes;
  run : IsRun (take l.at l.bytes);
}
