use Rattle.std.proofs.Common.{lit≤, rules}
use Rattle.fibs_position.proofs.own_view.colour.Goals as goal

pub returns-clause-side : goal.returns-clause-side
returns-clause-side c =
    let side =
    (c.fields_have_their_ranges.ensures.side 42 c.field.result (lit≤ tt) (lit≤ tt)).0 c.field.ensures.allowed in
    search rules
