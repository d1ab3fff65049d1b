use Rattle.fibs_model.proofs.RealLaws.{real_can_rest, real_way}
use Rattle.fibs_model.proofs.machine.laws.can_rest.Goals as goal

pub returns : goal.returns
returns c = record {
  can_rest = real_can_rest c.fibs_is_a_game.ensures c.good_is_exact.ensures c.logins_are_quiet.ensures;
  way = real_way c.fibs_is_a_game.ensures c.good_is_exact.ensures c.logins_are_quiet.ensures;
}
