use Rattle.std.proofs.Common.{◌≡◌, ◌++◌, ℕ, List, length}
use Rattle.std.specs.Io.KnownBytes.{Appends}
use Rattle.fibs_engine.specs.Escape.{escaped}
use Rattle.fibs_engine.proofs.escape.write_escaped.Given as goal

-- what the writer gained so far, and the text of the rest, is that of all
abbrev pub invariant-loop-at : goal.invariant-loop-at
invariant-loop-at g l = (front : List ℕ) × (front ++ escaped l.rest ≡ escaped l.bytes)
    × Appends (g.W.Write.contents l.initial.writer) (g.W.Write.contents l.writer) front

abbrev pub decreases-loop-at : goal.decreases-loop-at
decreases-loop-at g l = length l.rest
