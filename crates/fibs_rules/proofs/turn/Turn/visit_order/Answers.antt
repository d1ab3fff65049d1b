use Rattle.std.proofs.Common.{arith, ◌≤◌}
use Rattle.fibs_rules.proofs.SearchLemmas.FollowSteps.{dice_front}
use Rattle.fibs_rules.proofs.turn.Turn.visit_order.Goals as goal

pub visit-requires-clause-dice : goal.visit-requires-clause-dice
visit-requires-clause-dice c =
    let held = c.dice_given-held.result in
    let short : c.min-count.result ≤ held.count = omega (arith, c.min-count.ensures) in
    dice_front held.dice c.min-count.result held.count (rw (← c.dice_given-held.ensures) at c.requires.dice) short
