use Rattle.std.proofs.Common.{◌≡◌, ◌≤◌, ◌-◌, ◌+◌, ◌++◌, length, take}
use Rattle.fibs_lines.specs.Progress.{IsRun}
use Rattle.fibs_lines.proofs.unfinished.take_windows.Given as goal

-- what was gone through is taken, and nothing in it ends the run
abbrev pub invariant-loop-at : goal.invariant-loop-at
invariant-loop-at l = record {
  in_range : l.at ≤ length l.bytes;
  fits : length l.initial.head + l.at ≤ 16385;
  taken : l.head ≡ l.initial.head ++ take l.at l.bytes;
  run : IsRun (take l.at l.bytes);
}

abbrev pub decreases-loop-at : goal.decreases-loop-at
decreases-loop-at l = length l.bytes - l.at
