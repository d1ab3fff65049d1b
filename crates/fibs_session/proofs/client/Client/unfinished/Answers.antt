use Rattle.fibs_session.proofs.Calls.ClientLaws.{lines_at}
use Rattle.fibs_session.proofs.client.Client.unfinished.Goals as goal

pub returns : goal.returns
returns c = λ t at. c.unfinished.ensures t.stream (lines_at _ t (rw (← c.self.view_is) at at))
