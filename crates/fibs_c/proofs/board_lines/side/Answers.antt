use Rattle.std.proofs.Common.{rules}
use Rattle.fibs_c.proofs.board_lines.side.Goals as goal

pub returns-clause-range : goal.returns-clause-range
returns-clause-range c =
    let side =
    (c.fields_have_their_ranges.ensures.side c.args.n c.field.result c.requires.low c.requires.high).0
    c.field.ensures.allowed in
    search rules
