use Rattle.fibs_session.proofs.Calls.SessionLaws.{order_does, order_refuses}
use Rattle.fibs_session.proofs.session.Session.order_roll.Goals as goal

pub returns-clause-does : goal.returns-clause-does
returns-clause-does c = order_does _ _ c.note_order.ensures.fields

pub returns-clause-refusal : goal.returns-clause-refusal
returns-clause-refusal c = order_refuses _ _ c.note_order.ensures.refusal
