use Rattle.fibs_model.proofs.RealLaws.{real_headline, real_stale}
use Rattle.fibs_model.proofs.machine.laws.headline.Goals as goal

pub returns : goal.returns
returns c = record {
  headline = real_headline c.fibs_is_a_game.ensures c.good_is_exact.ensures c.logins_are_quiet.ensures;
  stale = real_stale c.fibs_is_a_game.ensures c.good_is_exact.ensures c.logins_are_quiet.ensures;
}
