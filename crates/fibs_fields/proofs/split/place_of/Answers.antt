use Rattle.fibs_fields.proofs.FieldLemmas.Runs.{first_of_class}
use Rattle.fibs_fields.proofs.split.place_of.Goals as goal

pub returns-in-Some : goal.returns-in-Some
returns-in-Some c =
    let e = c.in-Some.ensures in
    first_of_class c.args.text.now c.args.byte c.in-Some.at e.byte e.run e.ends
