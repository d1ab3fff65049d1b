use Rattle.std.proofs.Common.{◌-◌, ◌≤◌, length, take}
use Rattle.fibs_lines.specs.Progress.{IsRun}
use Rattle.fibs_lines.proofs.unfinished.run_len.Given as goal

-- nothing interrupts what was searched
abbrev pub invariant-loop-window : goal.invariant-loop-window
invariant-loop-window l = record {
  in_range : l.at ≤ length l.bytes;
  run : IsRun (take l.at l.bytes);
}

abbrev pub decreases-loop-window : goal.decreases-loop-window
decreases-loop-window l = length l.bytes - l.at
