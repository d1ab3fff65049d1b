use Rattle.fibs_engine.proofs.StreamLemmas.{goes_fed}
use Rattle.fibs_engine.proofs.line_printer.append_fed.Goals as goal

pub returns-clause-goes_on : goal.returns-clause-goes_on
returns-clause-goes_on g c =
    let heard = c.in_ok-append_piece.ensures in (
      heard.0,
      heard.1,
      goes_fed g.P.LinePrinter.reads g.P.LinePrinter.prints c.args.lines.now c.feed.follows.lender-at-none
          c.args.printer.now c.append_piece.new.self c.args.piece.now heard.0 c.feed.result
          c.feed.follows.holds-at-none.0 c.feed.ensures.feeds heard.2,
    )
