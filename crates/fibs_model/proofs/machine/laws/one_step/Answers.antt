use Rattle.fibs_game.proofs.Once.{one_step}
use Rattle.fibs_model.proofs.machine.laws.one_step.Goals as goal

pub returns : goal.returns
returns c = one_step c.fibs_is_a_game.ensures
