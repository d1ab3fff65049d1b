use Rattle.fibs_session.proofs.Calls.SessionLaws.{open_does, open_refuses}
use Rattle.fibs_session.proofs.session.Session.open.Goals as goal

pub returns-clause-does : goal.returns-clause-does
returns-clause-does c = open_does _ _ _ c.begin_connection.ensures.fields c.begin_connection.ensures.handed

pub returns-clause-refusal : goal.returns-clause-refusal
returns-clause-refusal c = open_refuses _ _ c.begin_connection.ensures.refusal
