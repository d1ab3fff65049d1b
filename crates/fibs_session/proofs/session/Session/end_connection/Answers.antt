use Rattle.std.proofs.Common.{refl}
use Rattle.fibs_session.proofs.session.Session.end_connection.Goals as goal

pub returns-then-self-clause-fields : goal.returns-then-self-clause-fields
returns-then-self-clause-fields c = rw c.if-self.true refl

pub returns-then-self-clause-result : goal.returns-then-self-clause-result
returns-then-self-clause-result c = refl

pub returns-else-self-clause-result : goal.returns-else-self-clause-result
returns-else-self-clause-result c = refl
