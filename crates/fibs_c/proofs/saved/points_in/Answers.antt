-- So many points fit.
use Rattle.std.proofs.Common.{◌≤◌, arith, refl}
use Rattle.fibs_c.proofs.saved.points_in.Goals as goal

pub overflow_cast-result : goal.overflow_cast-result
overflow_cast-result c =
    let le : c.in-Some.points ≤ 99999999 = ((c.in-Some.ensures.exact c.in-Some.points).0 refl).1 in
    record { fits = omega arith }
