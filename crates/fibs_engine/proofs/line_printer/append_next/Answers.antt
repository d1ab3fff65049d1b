use Rattle.std.proofs.Common.{◌++◌, ◌∙◌, ap, append_assoc}
use Rattle.fibs_engine.proofs.StreamLemmas.{goes_rest}
use Rattle.fibs_engine.proofs.line_printer.append_next.Goals as goal

pub returns-clause-goes_on : goal.returns-clause-goes_on
returns-clause-goes_on g c =
    let lines = c.args.lines.now in
    let whole = c.in_ok-whole.ensures.goes_on in
    let next = c.in_ok-used.ensures.goes_on in (
      whole.0 ++ next.0,
      next.1 ∙ ap (λ l. l ++ next.0) whole.1 ∙ append_assoc c.args.text.now.items whole.0 next.0,
      goes_rest g.P.LinePrinter.reads g.P.LinePrinter.prints lines lines c.append_fed.new.lines c.args.printer.now
          c.append_whole_lines.new.self c.append_fed.new.printer c.args.piece.now whole.0 next.0
          c.in_ok-whole.whole c.in_ok-used.used c.in_ok-whole.ensures.range whole.2 next.2,
    )
