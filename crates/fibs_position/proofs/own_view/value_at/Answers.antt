use Rattle.std.proofs.Common.{arith}
use Rattle.std.proofs.lemmas.Int.{ints}
use Rattle.fibs_position.proofs.own_view.value_at.Goals as goal

pub returns-clause-few : goal.returns-clause-few
returns-clause-few c =
    let few =
    (c.fields_have_their_ranges.ensures.place c.place_field.result c.field.result (omega arith) (omega arith)).0
    c.field.ensures.allowed in
    (omega (arith, ints), omega (arith, ints))
