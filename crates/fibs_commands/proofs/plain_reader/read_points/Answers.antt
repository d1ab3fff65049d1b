use Rattle.std.proofs.Common.{◌≤◌, arith}
use Rattle.fibs_commands.proofs.plain_reader.read_points.Goals as goal

pub overflow_cast-result : goal.overflow_cast-result
overflow_cast-result c =
    let le : c.in_ok-points.points ≤ 65535 =
    ((c.read_decimal.ensures.exact c.in_ok-points.points).0 c.in_ok-points.was).1 in
    record { fits = omega arith }
