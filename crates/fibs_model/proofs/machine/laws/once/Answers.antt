use Rattle.fibs_game.proofs.Once.{once}
use Rattle.fibs_model.proofs.machine.laws.once.Goals as goal

pub returns : goal.returns
returns c = once c.fibs_is_a_game.ensures
