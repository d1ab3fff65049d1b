use Rattle.fibs_connect.specs.TypedReads.{ahead, FitsDevice, SpendsReads}
use Rattle.fibs_connect.proofs.TypedLemmas.Parts.{Parts}
use Rattle.fibs_connect.proofs.typed.typed_lines.TypedLines.read_to_end.Given as goal

-- of what was to come a part of the line was taken, and no more than the reads may give that were made
abbrev pub invariant-loop-line : goal.invariant-loop-line
invariant-loop-line g l = (FitsDevice l.initial.self (g.R.Read.remaining l.initial.reader) →
    FitsDevice l.self (g.R.Read.remaining l.reader)
    × Parts (ahead l.initial.self (g.R.Read.remaining l.initial.reader))
    (ahead l.self (g.R.Read.remaining l.reader)) l.line.items)
    × SpendsReads l.initial.self l.self (g.R.Read.remaining l.initial.reader) (g.R.Read.remaining l.reader)

abbrev pub decreases-loop-line : goal.decreases-loop-line
decreases-loop-line g l = l.self.reads
