use Rattle.fibs_connect.specs.Turns.Turn.{FitsStream, is_there}
use Rattle.fibs_connect.specs.TypedReads.{SpendsReads}
use Rattle.fibs_connect.proofs.answer_lines.Given as goal

-- the client is online exactly if there is a connection; and no more was read than the reads may give that were made
abbrev pub invariant-loop : goal.invariant-loop
invariant-loop g l = FitsStream l.seat.client (is_there l.seat.stream)
    × SpendsReads l.initial.lines l.lines (g.R.Read.remaining l.initial.typed) (g.R.Read.remaining l.typed)
