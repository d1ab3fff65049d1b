use Rattle.std.proofs.Common.{refl}
use Rattle.fibs_game.specs.Counter.{counter}
use Rattle.fibs_game.proofs.Counting.{lawful}
use Rattle.fibs_game.proofs.Headline.{headline, stale, joint_statement, agrees, only_login, can_rest, way}
use Rattle.fibs_game.proofs.Once.{one_step, once}
use Rattle.fibs_game.proofs.examples.Example.lawful.Goals as goal

pub returns : goal.returns
returns c = record {
  which = refl;
  lawful = lawful;
  headline = headline counter lawful;
  stale = stale counter lawful;
  joint_statement = joint_statement counter lawful;
  agrees = agrees counter lawful;
  only_login = only_login counter lawful;
  can_rest = can_rest counter lawful;
  way = way counter lawful;
  one_step = one_step lawful;
  once = once lawful;
}
