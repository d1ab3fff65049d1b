use Rattle.fibs_session.proofs.Calls.SessionLaws.{withdraw_does, withdraw_refuses}
use Rattle.fibs_session.proofs.session.Session.withdraw_roll.Goals as goal

pub returns-clause-does : goal.returns-clause-does
returns-clause-does c = withdraw_does _ _ c.note_withdrawal.ensures.fields

pub returns-clause-refusal : goal.returns-clause-refusal
returns-clause-refusal c = withdraw_refuses _ _ c.note_withdrawal.ensures.refusal
