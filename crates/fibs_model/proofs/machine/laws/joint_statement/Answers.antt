use Rattle.fibs_model.proofs.RealLaws.{real_joint}
use Rattle.fibs_model.proofs.machine.laws.joint_statement.Goals as goal

pub returns : goal.returns
returns c = real_joint c.fibs_is_a_game.ensures c.good_is_exact.ensures c.logins_are_quiet.ensures
