use Rattle.std.proofs.Common.{◌≤◌, ◌-◌, length, take}
use Rattle.fibs_engine.specs.Streams.{Gains}
use Rattle.fibs_show.specs.Show.{ShownLine}
use Rattle.fibs_show.proofs.show.put_lines.Given as goal

-- on the page is what is printed for the lines of the bytes that were read
abbrev pub invariant-loop-at : goal.invariant-loop-at
invariant-loop-at l = record {
  in_range : l.at ≤ length l.piece;
  gains : Gains ShownLine l.lines l.lines (take l.at l.piece) l.page;
}

abbrev pub decreases-loop-at : goal.decreases-loop-at
decreases-loop-at l = length l.piece - l.at
