use Rattle.std.proofs.Common.{refl}
use Rattle.fibs_session.proofs.session.Session.note_withdrawal.Goals as goal

pub returns-clause-fields : goal.returns-clause-fields
returns-clause-fields c = rw c.if-not-self.false (rw c.if-not-self-2.false refl)
