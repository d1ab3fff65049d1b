use Rattle.std.proofs.Common.{◌∙◌}
use Rattle.fibs_session.proofs.Calls.SessionLaws.{lose_does, waiting_law}
use Rattle.fibs_session.proofs.session.Session.lose.Goals as goal

pub returns-clause-does : goal.returns-clause-does
returns-clause-does c = lose_does _ _ c.end_connection.ensures.fields

pub returns-clause-unconfirmed : goal.returns-clause-unconfirmed
returns-clause-unconfirmed c = λ t at. c.end_connection.ensures.result ∙ waiting_law _ t at
