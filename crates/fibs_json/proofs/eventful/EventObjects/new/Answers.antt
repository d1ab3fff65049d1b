use Rattle.std.proofs.Common.{ap}
use Rattle.fibs_json.specs.declared.eventful.Counts.{Counts}
use Rattle.fibs_json.proofs.AskedLemmas.{asked_nothing}
use Rattle.fibs_json.proofs.CountLemmas.{no_lines}
use Rattle.fibs_json.proofs.eventful.EventObjects.new.Goals as goal

pub returns-clause-asking : goal.returns-clause-asking
returns-clause-asking c =
    asked_nothing c.new-2.result c.new-2.ensures.heard (ap (λ a. a.is_told) c.new-2.ensures.value)

pub returns-clause-lines : goal.returns-clause-lines
returns-clause-lines c = no_lines c.new-4.result.lines (ap (λ (d : Counts). d.lines) c.new-4.ensures)
