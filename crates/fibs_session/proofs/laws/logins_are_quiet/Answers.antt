use Rattle.fibs_session.proofs.Game.Lawful.{login_quiet}
use Rattle.fibs_session.proofs.laws.logins_are_quiet.Goals as goal

pub returns : goal.returns
returns c = login_quiet c.layers_below.ensures
