use Rattle.std.proofs.Common.{refl}
use Rattle.fibs_session.specs.History.Machine.{Lose}
use Rattle.fibs_session.proofs.Calls.ClientLaws.{session_at, client_does, lose_keeps}
use Rattle.fibs_session.proofs.client.Client.lose.Goals as goal

pub returns-clause-does : goal.returns-clause-does
returns-clause-does c = rw (← c.self.view_is) (client_does Lose _ _ _ lose_keeps refl c.lose.ensures.does)

pub returns-clause-unconfirmed : goal.returns-clause-unconfirmed
returns-clause-unconfirmed c = λ t at. c.lose.ensures.unconfirmed t (session_at _ t (rw (← c.self.view_is) at at))
