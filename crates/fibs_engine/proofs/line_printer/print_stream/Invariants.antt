use Rattle.std.proofs.Common.{◌≡◌, length}
use Rattle.fibs_engine.proofs.StreamLemmas.{Passed}
use Rattle.fibs_engine.proofs.line_printer.print_stream.Given as goal

abbrev pub invariant-loop-made : goal.invariant-loop-made
invariant-loop-made g l =
    Passed g.P.LinePrinter.reads g.P.LinePrinter.prints (g.R.Read.remaining l.initial.reader)
    (g.R.Read.remaining l.reader)
    (g.W.Write.contents l.initial.writer) (g.W.Write.contents l.writer) l.lines l.printer l.text.items l.made
    (length l.initial.portion)
    × (length l.portion ≡ length l.initial.portion)
