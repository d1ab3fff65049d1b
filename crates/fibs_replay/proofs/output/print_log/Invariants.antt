use Rattle.std.proofs.Common.{map, take}
use Rattle.fibs_model.specs.EntryOf.{entry_of}
use Rattle.fibs_replay.specs.LogLines.{log_text}
use Rattle.fibs_replay.specs.Passing.{Passed}
use Rattle.fibs_replay.proofs.output.print_log.Given as goal

-- of the lines so far the writer gained a front, and the rest is the text
abbrev pub invariant-loop-entry : goal.invariant-loop-entry
invariant-loop-entry g l =
    Passed (g.W.Write.contents l.initial.writer) (g.W.Write.contents l.writer)
    (log_text (map entry_of (take l.entry-index l.entries))) l.text.items
