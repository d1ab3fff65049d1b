use Rattle.fibs_engine.proofs.OkLemmas.{on_ok_weaker}
use Rattle.fibs_json.specs.Passing.{ending_at}
use Rattle.fibs_json.proofs.PlaceLemmas.{ends_at}
use Rattle.fibs_json.proofs.show.ObjectsLinePrinter.append_end.Goals as goal

pub returns : goal.returns
returns c =
    let bytes = c.unfinished.result.now in
    let place = c.args.self.now.place in
    on_ok_weaker c.append_unfinished.result
    (λ same. (ending_at place bytes, same, λ s stands read. ends_at place s bytes read (c.unfinished.ensures s stands)))
    c.append_unfinished.ensures
