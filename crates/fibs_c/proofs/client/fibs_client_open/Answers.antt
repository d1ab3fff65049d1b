-- The login command is handed out, or the call is refused.
use Rattle.std.proofs.Common.{ap, ◌∙◌}
use Rattle.std.specs.Prelude.{Option}
use Rattle.fibs_session.specs.Calls.Standing.{ClientValue}
use Rattle.fibs_session.specs.History.Machine.{Open}
use Rattle.fibs_session.specs.Calls.SessionOf.{handed}
use Rattle.fibs_c.specs.Records.Statuses.{refusal_status}
use Rattle.fibs_c.specs.ClientDoor.{IsOpened}
use Rattle.fibs_c.proofs.ClientLemmas.{put_back, on_wire, emptied, is_refused}
use Rattle.fibs_c.proofs.client.fibs_client_open.Goals as goal

pub returns-in-Some : goal.returns-in-Some
returns-in-Some c =
    let told = c.hand_out_command-status in let done = c.open.ensures in
    let before = c.deref_mut.result.now in let after = c.open.new.self in
    put_back (λ (o n : Option ClientValue). IsOpened o n c.args.wire.now told.new.wire told.result)
    c.args.client.now.value c.of.result.value before c.in-Some.held.value after c.deref_mut.ensures.value
    c.in-Some.ensures.value c.of.ensures
    (record {
      does = on_wire before after Open (handed c.open.result) c.args.wire.now c.clear.new.wire told.new.wire done.does
          c.clear.ensures told.ensures.wire;
      refusal = λ t s. told.ensures.status ∙ ap refusal_status (done.refusal t s);
      kept = λ nonzero. (
        done.kept (is_refused c.open.result told.result told.ensures.status nonzero),
        emptied c.args.wire.now c.clear.new.wire told.new.wire c.clear.ensures (told.ensures.refused nonzero),
      );
    })
