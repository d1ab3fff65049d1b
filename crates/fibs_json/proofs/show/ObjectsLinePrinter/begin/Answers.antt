use Rattle.fibs_json.specs.Places.{PlacedObject}
use Rattle.fibs_json.proofs.PlaceLemmas.{each_of_nothing, ending_of}
use Rattle.fibs_json.proofs.show.ObjectsLinePrinter.begin.Goals as goal

pub returns-clause-prints : goal.returns-clause-prints
returns-clause-prints c = each_of_nothing PlacedObject

pub returns-clause-may_end : goal.returns-clause-may_end
returns-clause-may_end c = λ objects s read. ending_of objects.place s read
