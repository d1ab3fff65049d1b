use Rattle.fibs_model.proofs.RealLaws.{real_agrees, real_only_login}
use Rattle.fibs_model.proofs.machine.laws.agrees.Goals as goal

pub returns : goal.returns
returns c = record {
  agrees = real_agrees c.fibs_is_a_game.ensures c.good_is_exact.ensures c.logins_are_quiet.ensures;
  only_login = real_only_login c.fibs_is_a_game.ensures c.good_is_exact.ensures c.logins_are_quiet.ensures;
}
