use Rattle.std.proofs.Common.{◌++◌, ◌∙◌, ap, append_assoc, refl}
use Rattle.fibs_engine.proofs.OkLemmas.{on_ok_weaker}
use Rattle.fibs_json.specs.Counting.{summary_object}
use Rattle.fibs_json.specs.Passing.{ending_at}
use Rattle.fibs_json.proofs.PlaceLemmas.{ends_at}
use Rattle.fibs_json.proofs.eventful.EventObjectsLinePrinter.append_end.Goals as goal

pub returns : goal.returns
returns c =
    let bytes = c.unfinished.result.now in
    let place = c.args.self.now.place in
    let counts = c.args.self.now.counts in
    on_ok_weaker c.append_summary.result
    (λ same. (
      ending_at place bytes ++ summary_object counts,
      same ∙ ap (λ l. l ++ summary_object counts) c.in_ok-append_unfinished.ensures
          ∙ append_assoc c.args.text.now.items (ending_at place bytes) (summary_object counts),
      λ s stands read. (
        ending_at place bytes,
        counts,
        ends_at place s bytes read.0 (c.unfinished.ensures s stands),
        read.2,
        refl,
      ),
    ))
    c.append_summary.ensures
