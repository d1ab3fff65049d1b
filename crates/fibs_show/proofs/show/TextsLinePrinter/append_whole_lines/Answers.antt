use Rattle.std.proofs.Common.{◌++◌, take, ap, ◌∙◌}
use Rattle.fibs_engine.proofs.StreamLemmas.{goes_by_lines}
use Rattle.fibs_show.specs.Show.{ShownLine}
use Rattle.fibs_show.proofs.show.TextsLinePrinter.append_whole_lines.Goals as goal

pub returns-clause-goes_on : goal.returns-clause-goes_on
returns-clause-goes_on c =
    let lines = c.args.lines.now in
    let page = c.put_lines-put.new.page in (
      page,
      c.in_ok-extend_from_slice.ensures.items ∙ ap (λ l. c.args.text.now.items ++ l) c.as_slice.ensures,
      goes_by_lines (λ _ _. Unit {0}) ShownLine lines lines _ _ (take c.put_lines-put.result c.args.piece.now) page
          (λ _ _. tt) c.put_lines-put.ensures.gains,
    )
