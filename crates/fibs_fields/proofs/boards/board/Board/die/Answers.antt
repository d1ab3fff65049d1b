use Rattle.std.proofs.Common.{arith, rules}
use Rattle.std.proofs.lemmas.Int.{ints}
use Rattle.fibs_fields.proofs.BoardLemmas.FieldRangeLaws.{field_ranges}
use Rattle.fibs_fields.proofs.boards.board.Board.die.Goals as goal

pub overflow_cast-result : goal.overflow_cast-result
overflow_cast-result c =
    let dice = (field_ranges.dice c.args.n c.field.result c.requires.low c.requires.high).0 c.field.ensures.allowed in
    search rules

pub returns-clause-value : goal.returns-clause-value
returns-clause-value c =
    let dice = (field_ranges.dice c.args.n c.field.result c.requires.low c.requires.high).0 c.field.ensures.allowed in
    search rules

pub returns-clause-high : goal.returns-clause-high
returns-clause-high c =
    let dice = (field_ranges.dice c.args.n c.field.result c.requires.low c.requires.high).0 c.field.ensures.allowed in
    omega (arith, ints)
