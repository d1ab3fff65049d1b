use Rattle.std.proofs.Common.{arith, refl}
use Rattle.std.proofs.lemmas.Int.{ints}
use Rattle.fibs_position.proofs.board_effect.cube_of.Goals as goal

pub returns-clause-range : goal.returns-clause-range
returns-clause-range c =
    let range = (c.fields_have_their_ranges.ensures.cube 38 c.field.result refl).0 c.field.ensures.allowed in
    (omega (arith, ints), omega (arith, ints))
