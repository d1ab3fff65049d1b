-- A plain command is handed out, or refused.
use Rattle.std.proofs.Common.{ap, subst, ◌∙◌}
use Rattle.std.specs.Prelude.{Option, Some}
use Rattle.fibs_session.specs.Calls.Standing.{ClientValue}
use Rattle.fibs_commands.specs.PlainCommands.{PlainValue}
use Rattle.fibs_commands.specs.PlainOf.{plain_value}
use Rattle.fibs_session.specs.History.Machine.{PlainInput}
use Rattle.fibs_session.specs.Calls.SessionOf.{handed}
use Rattle.fibs_c.specs.Records.Statuses.{plain_status}
use Rattle.fibs_c.specs.ClientDoor.{IsPlainSent}
use Rattle.fibs_c.proofs.ClientLemmas.{put_back, on_wire, emptied, is_plain_refused}
use Rattle.fibs_c.proofs.client.fibs_client_plain.Goals as goal

pub returns-in-Some-take : goal.returns-in-Some-take
returns-in-Some-take c =
    let told = c.hand_out_plain-status in let done = c.plain.ensures in
    let before = c.deref_mut.result.now in let after = c.plain.new.self in
    let plain = plain_value c.in-Some.plain in
    subst (λ (p : Option PlainValue). IsPlainSent p c.args.client.now.value c.of.result.value c.args.wire.now
    told.new.wire told.result) c.in-Some.ensures.value
    (put_back (λ (o n : Option ClientValue). IsPlainSent (Some plain) o n c.args.wire.now told.new.wire told.result)
    c.args.client.now.value c.of.result.value before c.in-Some-take.held.value after c.deref_mut.ensures.value
    c.in-Some-take.ensures.value c.of.ensures
    (record {
      does = on_wire before after (PlainInput plain)
          (handed c.plain.result) c.args.wire.now c.clear.new.wire told.new.wire done.does
          c.clear.ensures told.ensures.wire;
      refusal = λ t s. told.ensures.status ∙ ap plain_status (done.refusal t s);
      kept = λ nonzero. (
        done.kept (is_plain_refused c.plain.result told.result told.ensures.status nonzero),
        emptied c.args.wire.now c.clear.new.wire told.new.wire c.clear.ensures (told.ensures.refused nonzero),
      );
    }))
