use Rattle.fibs_session.proofs.Game.Lawful.{lawful}
use Rattle.fibs_session.proofs.laws.fibs_is_a_game.Goals as goal

pub returns : goal.returns
returns c = lawful c.layers_below.ensures
