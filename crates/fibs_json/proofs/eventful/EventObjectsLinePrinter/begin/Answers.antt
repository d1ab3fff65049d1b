use Rattle.std.proofs.Common.{◌++◌, refl}
use Rattle.fibs_json.specs.Counting.{summary_object}
use Rattle.fibs_json.proofs.PlaceLemmas.{ending_of}
use Rattle.fibs_json.proofs.RefusedLemmas.{text_of_nothing}
use Rattle.fibs_json.proofs.eventful.EventObjectsLinePrinter.begin.Goals as goal

pub returns-clause-prints : goal.returns-clause-prints
returns-clause-prints c = text_of_nothing

pub returns-clause-may_end : goal.returns-clause-may_end
returns-clause-may_end c = λ objects s read.
    let end = ending_of objects.place s read.0 in
    (end.0 ++ summary_object objects.counts, (end.0, objects.counts, end.1, read.2, refl))
