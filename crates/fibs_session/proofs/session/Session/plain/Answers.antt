use Rattle.fibs_commands.specs.PlainOf.{plain_value}
use Rattle.fibs_session.proofs.Calls.SessionLaws.{plain_does, plain_refuses}
use Rattle.fibs_session.proofs.session.Session.plain.Goals as goal

pub returns-clause-does : goal.returns-clause-does
returns-clause-does c =
    plain_does _ _ (plain_value c.args.plain.now) _ c.note_plain.ensures.fields c.note_plain.ensures.handed

pub returns-clause-refusal : goal.returns-clause-refusal
returns-clause-refusal c = plain_refuses _ (plain_value c.args.plain.now) _ c.note_plain.ensures.refusal
