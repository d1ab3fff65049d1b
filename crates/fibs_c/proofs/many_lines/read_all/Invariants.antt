use Rattle.std.proofs.Common.{length, ◌-◌}
use Rattle.fibs_c.specs.ReadingOn.{ReadSoFar}
use Rattle.fibs_c.proofs.many_lines.read_all.Given as goal

abbrev pub invariant-loop-lines : goal.invariant-loop-lines
invariant-loop-lines l =
    ReadSoFar l.initial.lines l.lines l.piece l.told.used l.told.lines l.told.bytes l.initial.rows l.rows l.initial.text
    l.text

abbrev pub decreases-loop-lines : goal.decreases-loop-lines
decreases-loop-lines l = length l.piece - l.told.used
