use Rattle.std.proofs.lemmas.Bool.Decides.{Decides-at}
use Rattle.fibs_messages.specs.contracts.message.MessagePartialEq.TheImpl.{eq-value}
use Rattle.fibs_messages.proofs.MessageLemmas.MessageEquality.{messages_decide}
use Rattle.fibs_messages.proofs.laws.messages_are_their_fields.Goals as goal

pub returns : goal.returns
returns c =
    let a = c.args.a.now in
    let b = c.args.b.now in
    Decides-at c.eq.result (eq-value.it a b) c.eq.ensures (messages_decide a b)
