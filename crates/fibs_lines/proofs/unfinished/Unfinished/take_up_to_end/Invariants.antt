use Rattle.std.proofs.Common.{◌-◌, ◌≤◌, length, take}
use Rattle.fibs_lines.specs.Progress.{kept, Advances}
use Rattle.fibs_lines.proofs.unfinished.Unfinished.take_up_to_end.Given as goal

-- no line ends in what is taken
abbrev pub invariant-loop-at : goal.invariant-loop-at
invariant-loop-at l = record {
  in_range : l.at ≤ length l.piece;
  advances : Advances (kept l.fn.self) (kept l.self) (take l.at l.piece);
}

abbrev pub decreases-loop-at : goal.decreases-loop-at
decreases-loop-at l = length l.piece - l.at
