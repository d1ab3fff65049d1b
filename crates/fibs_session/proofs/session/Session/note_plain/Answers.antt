use Rattle.std.proofs.Common.{rules}
use Rattle.fibs_session.proofs.session.Session.note_plain.Goals as goal

pub returns-in_err-text-clause-fields : goal.returns-in_err-text-clause-fields
returns-in_err-text-clause-fields c = search rules

pub returns-clause-fields : goal.returns-clause-fields
returns-clause-fields c = search rules
