use Rattle.std.proofs.Common.{refl}
use Rattle.fibs_session.proofs.Calls.ClientLaws.{same_client, session_at, opens_new, opens_not}
use Rattle.fibs_session.proofs.client.Client.open.Goals as goal

pub returns-in-Err-clause-does : goal.returns-in-Err-clause-does
returns-in-Err-clause-does c =
    rw (← c.self.view_is) (opens_not _ _ _ c.in-Err.why refl c.in-Err.ensures.refusal c.in-Err.ensures.does)

pub returns-in-Err-clause-refusal : goal.returns-in-Err-clause-refusal
returns-in-Err-clause-refusal c = λ t at. c.in-Err.ensures.refusal t (session_at _ t (rw (← c.self.view_is) at at))

pub returns-in-Ok-clause-does : goal.returns-in-Ok-clause-does
returns-in-Ok-clause-does c =
    rw (← c.self.view_is) (opens_new _ _ _ c.reset.ensures.stands c.in-Ok.ensures.refusal c.in-Ok.ensures.does)

pub returns-in-Ok-clause-refusal : goal.returns-in-Ok-clause-refusal
returns-in-Ok-clause-refusal c = λ t at. c.in-Ok.ensures.refusal t (session_at _ t (rw (← c.self.view_is) at at))

pub returns-in-Err-clause-kept : goal.returns-in-Err-clause-kept
returns-in-Err-clause-kept c = λ refused. rw (← c.self.view_is) (same_client _ _ refl (c.in-Err.ensures.kept refused))
