use Rattle.std.proofs.Common.{refl}
use Rattle.fibs_session.specs.History.Machine.{Withdraw}
use Rattle.fibs_session.proofs.Calls.ClientLaws.{same_client, session_at, client_does, withdraw_keeps}
use Rattle.fibs_session.proofs.client.Client.withdraw_roll.Goals as goal

pub returns-clause-does : goal.returns-clause-does
returns-clause-does c =
    rw (← c.self.view_is) (client_does Withdraw _ _ _ withdraw_keeps refl c.withdraw_roll.ensures.does)

pub returns-clause-refusal : goal.returns-clause-refusal
returns-clause-refusal c = λ t at. c.withdraw_roll.ensures.refusal t (session_at _ t (rw (← c.self.view_is) at at))

pub returns-clause-kept : goal.returns-clause-kept
returns-clause-kept c = λ refused. rw (← c.self.view_is) (same_client _ _ refl (c.withdraw_roll.ensures.kept refused))
