use Rattle.fibs_position.specs.DecisionValue.{decision_of}
use Rattle.fibs_session.proofs.Calls.SessionLaws.{decide_does, answer_is}
use Rattle.fibs_session.proofs.session.Session.decide.Goals as goal

pub returns-clause-does : goal.returns-clause-does
returns-clause-does c =
    decide_does _ _ (decision_of c.args.decision.now) _ c.note_decision.ensures.fields c.note_decision.ensures.handed

pub returns-clause-refusal : goal.returns-clause-refusal
returns-clause-refusal c = answer_is _ (decision_of c.args.decision.now) _ c.note_decision.ensures.refusal
