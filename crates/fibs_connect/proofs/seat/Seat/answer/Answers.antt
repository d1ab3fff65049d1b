use Rattle.std.proofs.Common.{refl}
use Rattle.fibs_connect.proofs.seat.Seat.answer.Goals as goal

pub returns-in_ok-pass-in-Send-clause-answered : goal.returns-in_ok-pass-in-Send-clause-answered
returns-in_ok-pass-in-Send-clause-answered g c = rw c.in-Send.is (c.in_ok-pass-in-Send.ensures.passed, refl)
