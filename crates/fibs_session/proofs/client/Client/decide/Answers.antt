use Rattle.std.proofs.Common.{refl}
use Rattle.fibs_position.specs.DecisionValue.{decision_of}
use Rattle.fibs_session.specs.History.Machine.{Click}
use Rattle.fibs_session.proofs.Calls.ClientLaws.{same_client, session_at, client_does, click_keeps}
use Rattle.fibs_session.proofs.client.Client.decide.Goals as goal

pub returns-clause-does : goal.returns-clause-does
returns-clause-does c = let d = decision_of c.args.decision.now in
    rw (← c.self.view_is) (client_does (Click d) _ _ _ (click_keeps d) refl c.decide.ensures.does)

pub returns-clause-refusal : goal.returns-clause-refusal
returns-clause-refusal c = λ t at. c.decide.ensures.refusal t (session_at _ t (rw (← c.self.view_is) at at))

pub returns-clause-kept : goal.returns-clause-kept
returns-clause-kept c = λ refused. rw (← c.self.view_is) (same_client _ _ refl (c.decide.ensures.kept refused))
