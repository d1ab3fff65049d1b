use Rattle.std.proofs.Common.{◌≤◌, arith}
use Rattle.fibs_replay.proofs.events.read_die.Goals as goal

pub overflow_cast-result : goal.overflow_cast-result
overflow_cast-result c =
    let le : c.in_ok-die.die ≤ 255 = ((c.read_decimal.ensures.exact c.in_ok-die.die).0 c.in_ok-die.was).1 in
    record { fits = omega arith }
