use Rattle.std.proofs.Common.{◌∙◌}
use Rattle.fibs_position.specs.DecisionValue.{decision_of}
use Rattle.fibs_session.proofs.Calls.ClientLaws.{session_at}
use Rattle.fibs_session.proofs.Calls.SessionLaws.{answer_is}
use Rattle.fibs_session.proofs.client.Client.refusal.Goals as goal

pub returns : goal.returns
returns c = λ t at. answer_is _ (decision_of c.args.decision.now) _
    (c.err.ensures.value ∙ c.board_for.ensures.refusal) t (session_at _ t (rw (← c.self.view_is) at at))
