use Rattle.std.proofs.Common.{rules}
use Rattle.fibs_session.proofs.session.Session.note_message.Goals as goal

pub returns-after-is_none-clause-send : goal.returns-after-is_none-clause-send
returns-after-is_none-clause-send c = search rules

pub returns-after-not-self-clause-send : goal.returns-after-not-self-clause-send
returns-after-not-self-clause-send c = search rules
