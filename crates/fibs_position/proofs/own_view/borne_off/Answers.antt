use Rattle.std.proofs.Common.{arith, rules}
use Rattle.std.proofs.lemmas.Int.{ints}
use Rattle.fibs_position.proofs.own_view.borne_off.Goals as goal

pub overflow_cast-result : goal.overflow_cast-result
overflow_cast-result c =
    let off =
    (c.fields_have_their_ranges.ensures.off c.args.field c.field.result c.requires.low c.requires.high).0
    c.field.ensures.allowed in
    search rules

pub returns-clause-value : goal.returns-clause-value
returns-clause-value c =
    let off =
    (c.fields_have_their_ranges.ensures.off c.args.field c.field.result c.requires.low c.requires.high).0
    c.field.ensures.allowed in
    search rules

pub returns-clause-few : goal.returns-clause-few
returns-clause-few c =
    let off =
    (c.fields_have_their_ranges.ensures.off c.args.field c.field.result c.requires.low c.requires.high).0
    c.field.ensures.allowed in
    omega (arith, ints)
