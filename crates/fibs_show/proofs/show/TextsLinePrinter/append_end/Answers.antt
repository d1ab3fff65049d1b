use Rattle.std.proofs.Common.{ap}
use Rattle.fibs_engine.proofs.OkLemmas.{on_ok_weaker}
use Rattle.fibs_show.specs.Show.{unfinished_text}
use Rattle.fibs_show.proofs.show.TextsLinePrinter.append_end.Goals as goal

pub returns : goal.returns
returns c =
    on_ok_weaker c.append_unfinished.result
    (λ same. (unfinished_text c.held.result, same, λ s stands _. ap unfinished_text (c.held.ensures.value s stands)))
    c.append_unfinished.ensures
