use Rattle.std.proofs.Common.{◌++◌, ◌∷◌, [], sym, append-nil}
use Rattle.fibs_engine.proofs.OkLemmas.{on_ok_weaker}
use Rattle.fibs_engine.proofs.StreamLemmas.{hears_lent, lent_none, lent_some}
use Rattle.fibs_show.specs.Show.{ShownLine}
use Rattle.fibs_show.proofs.show.TextsLinePrinter.append_piece.Goals as goal

pub returns-in-Some : goal.returns-in-Some
returns-in-Some c =
    on_ok_weaker c.append_line.result
    (λ shown. (
      shown.0 ++ (10 ∷ []),
      shown.2,
      hears_lent (λ _ _. Unit {0}) ShownLine c.args.self.now c.args.self.now c.args._piece.now
          (shown.0 ++ (10 ∷ [])) c.args.fed.now (λ _ _. tt)
          (rw c.in-Some.is (lent_some ShownLine c.in-Some.line shown.0 shown.1)),
    ))
    c.append_line.ensures

pub returns-in-None : goal.returns-in-None
returns-in-None c = (
  [],
  sym (append-nil c.args.text.now.items),
  hears_lent (λ _ _. Unit {0}) ShownLine c.args.self.now c.args.self.now c.args._piece.now [] c.args.fed.now (λ _ _. tt)
      (rw c.in-None.is (lent_none ShownLine)),
)
