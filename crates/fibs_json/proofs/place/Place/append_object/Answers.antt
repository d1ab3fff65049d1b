use Rattle.fibs_engine.proofs.OkLemmas.{on_ok_weaker}
use Rattle.fibs_lines.specs.Lines.{value_of}
use Rattle.fibs_json.proofs.PlaceLemmas.{object_at}
use Rattle.fibs_json.proofs.place.Place.append_object.Goals as goal

pub returns : goal.returns
returns c =
    let told = c.in_ok-append_object.ensures in
    on_ok_weaker c.append_inside.result
    (λ goes. object_at c.args.self.now (value_of c.args.line.now) c.args.text.now.items
    c.append_object.new.text.items c.append_inside.new.text.items told.0 told.1 told.2 goes)
    c.append_inside.ensures
