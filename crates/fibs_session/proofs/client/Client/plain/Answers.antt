use Rattle.std.proofs.Common.{refl}
use Rattle.fibs_session.specs.History.Machine.{PlainInput}
use Rattle.fibs_commands.specs.PlainOf.{plain_value}
use Rattle.fibs_session.proofs.Calls.ClientLaws.{same_client, session_at, client_does, plain_keeps}
use Rattle.fibs_session.proofs.client.Client.plain.Goals as goal

pub returns-clause-does : goal.returns-clause-does
returns-clause-does c = let p = plain_value c.args.plain.now in
    rw (← c.self.view_is) (client_does (PlainInput p) _ _ _ (plain_keeps p) refl c.plain.ensures.does)

pub returns-clause-refusal : goal.returns-clause-refusal
returns-clause-refusal c = λ t at. c.plain.ensures.refusal t (session_at _ t (rw (← c.self.view_is) at at))

pub returns-clause-kept : goal.returns-clause-kept
returns-clause-kept c = λ refused. rw (← c.self.view_is) (same_client _ _ refl (c.plain.ensures.kept refused))
