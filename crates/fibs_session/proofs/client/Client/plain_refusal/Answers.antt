use Rattle.std.proofs.Common.{◌∙◌}
use Rattle.fibs_commands.specs.PlainOf.{plain_value}
use Rattle.fibs_session.proofs.Calls.ClientLaws.{session_at}
use Rattle.fibs_session.proofs.Calls.SessionLaws.{plain_refuses}
use Rattle.fibs_session.proofs.client.Client.plain_refusal.Goals as goal

pub returns : goal.returns
returns c = λ t at. plain_refuses _ (plain_value c.args.plain.now) _
    (c.err.ensures.value ∙ c.text_for.ensures.refusal) t (session_at _ t (rw (← c.self.view_is) at at))
