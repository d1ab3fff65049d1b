use Rattle.std.proofs.Common.{◌≡◌, ◌++◌, ℕ, List, length}
use Rattle.fibs_engine.specs.Streams.{TextGoesOn}
use Rattle.fibs_engine.proofs.line_printer.append_portion.Given as goal

-- the portion has a front that was read, and what is appended so far is printed for its lines
abbrev pub invariant-loop-rest : goal.invariant-loop-rest
invariant-loop-rest g l = (front : List ℕ) × (l.portion ≡ front ++ l.rest)
    × TextGoesOn g.P.LinePrinter.reads g.P.LinePrinter.prints l.initial.lines l.lines l.initial.printer l.printer front
    l.initial.text.items l.text.items

abbrev pub decreases-loop-rest : goal.decreases-loop-rest
decreases-loop-rest g l = length l.rest
