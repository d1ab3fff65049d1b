use Rattle.std.proofs.Common.{◌++◌, ◌∷◌, [], refl}
use Rattle.fibs_lines.specs.Feeding.{fed_of}
use Rattle.fibs_engine.proofs.StreamLemmas.{lent_some, gains_fed}
use Rattle.fibs_show.specs.Show.{ShownLine}
use Rattle.fibs_show.proofs.show.put_next.Goals as goal

pub returns-then-put_line-clause-gains : goal.returns-then-put_line-clause-gains
returns-then-put_line-clause-gains c =
    let whole = c.in-Some.whole in
    let shown = c.if-put_line.ensures.put refl in
    let lines = c.args.lines.now in (
      shown.0 ++ (10 ∷ []),
      shown.2,
      gains_fed ShownLine lines lines c.args.piece.now (shown.0 ++ (10 ∷ [])) (fed_of whole) c.in-Some.ensures.stands
          c.in-Some.ensures.feeds (lent_some ShownLine whole.line shown.0 shown.1),
    )
