use Rattle.fibs_session.proofs.Calls.ClientLaws.{session_at}
use Rattle.fibs_session.proofs.client.Client.game.Goals as goal

pub returns : goal.returns
returns c = λ t at. c.game.ensures t (session_at _ t (rw (← c.self.view_is) at at))
