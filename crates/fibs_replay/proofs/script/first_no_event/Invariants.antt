use Rattle.std.proofs.Common.{length}
use Rattle.fibs_replay.proofs.ScriptLemmas.Scripts.{Read}
use Rattle.fibs_replay.proofs.script.first_no_event.Given as goal

-- the lines so far say events
abbrev pub invariant-loop-line : goal.invariant-loop-line
invariant-loop-line l = Read l.initial.lines l.lines l.number

abbrev pub decreases-loop-line : goal.decreases-loop-line
decreases-loop-line l = length l.lines
