-- A decision is handed out, or refused.
use Rattle.std.proofs.Common.{ap, subst, ◌∙◌}
use Rattle.std.specs.Prelude.{Option, Some}
use Rattle.fibs_session.specs.Calls.Standing.{ClientValue}
use Rattle.fibs_position.specs.DecisionValue.{DecisionValue, decision_of}
use Rattle.fibs_session.specs.History.Machine.{Click}
use Rattle.fibs_session.specs.Calls.SessionOf.{handed}
use Rattle.fibs_c.specs.Records.Statuses.{refusal_status}
use Rattle.fibs_c.specs.ClientDoor.{IsDecided}
use Rattle.fibs_c.proofs.ClientLemmas.{put_back, on_wire, emptied, is_refused}
use Rattle.fibs_c.proofs.client.fibs_client_decide.Goals as goal

pub returns-in-Some-take : goal.returns-in-Some-take
returns-in-Some-take c =
    let told = c.hand_out_command-status in let done = c.decide.ensures in
    let before = c.deref_mut.result.now in let after = c.decide.new.self in
    let decision = decision_of c.in-Some.decision in
    subst (λ (d : Option DecisionValue). IsDecided d c.args.client.now.value c.of.result.value c.args.wire.now
    told.new.wire told.result) c.in-Some.ensures
    (put_back (λ (o n : Option ClientValue). IsDecided (Some decision) o n c.args.wire.now told.new.wire told.result)
    c.args.client.now.value c.of.result.value before c.in-Some-take.held.value after c.deref_mut.ensures.value
    c.in-Some-take.ensures.value c.of.ensures
    (record {
      does = on_wire before after (Click decision) (handed c.decide.result) c.args.wire.now c.clear.new.wire
          told.new.wire done.does
          c.clear.ensures told.ensures.wire;
      refusal = λ t s. told.ensures.status ∙ ap refusal_status (done.refusal t s);
      kept = λ nonzero. (
        done.kept (is_refused c.decide.result told.result told.ensures.status nonzero),
        emptied c.args.wire.now c.clear.new.wire told.new.wire c.clear.ensures (told.ensures.refused nonzero),
      );
    }))
