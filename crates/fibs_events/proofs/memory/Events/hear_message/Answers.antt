use Rattle.std.proofs.Common.{sym, subst}
use Rattle.fibs_messages.specs.Message.{message_of}
use Rattle.fibs_messages.specs.declared.message.Message.{Message}
use Rattle.fibs_events.specs.Listed.{HearsMessage}
use Rattle.fibs_events.proofs.ListedLemmas.{welcome_heard}
use Rattle.fibs_events.proofs.memory.Events.hear_message.Goals as goal

pub returns-in-Welcome-clause-heard : goal.returns-in-Welcome-clause-heard
returns-in-Welcome-clause-heard c =
    let old = c.args.self.now in
    let new = c.hear_welcome.new.self in
    subst (λ (m : Message). HearsMessage (message_of m) old new c.hear_welcome.result) (sym c.in-Welcome.is)
    (welcome_heard old new c.hear_welcome.result c.in-Welcome.name c.in-Welcome.last_login c.in-Welcome.last_host
    c.hear_welcome.ensures.tells c.hear_welcome.ensures.remembered)
