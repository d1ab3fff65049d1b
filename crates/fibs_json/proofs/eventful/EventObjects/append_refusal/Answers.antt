use Rattle.std.proofs.Common.{◌++◌, ◌∙◌, ap}
use Rattle.fibs_engine.proofs.OkLemmas.{on_ok_weaker}
use Rattle.fibs_json.specs.Events.{event_object}
use Rattle.fibs_json.specs.Passing.{told_text}
use Rattle.fibs_json.specs.declared.eventful.Counts.{Counts}
use Rattle.fibs_json.proofs.CountLemmas.{any_lines}
use Rattle.fibs_json.proofs.eventful.EventObjects.append_refusal.Goals as goal

pub returns-clause-told : goal.returns-clause-told
returns-clause-told c =
    on_ok_weaker c.append_told.result
    (λ same. (
      c.hear-event.result,
      c.hear-event.ensures,
      same ∙ ap (λ n. c.args.text.now.items ++ told_text (event_object n) c.hear-event.result) c.number.ensures,
    ))
    c.append_told.ensures

pub returns-clause-lines : goal.returns-clause-lines
returns-clause-lines c =
    ap (λ (d : Counts). d.lines) c.count_any.ensures ∙ any_lines c.args.self.now.counts c.hear-event.result
