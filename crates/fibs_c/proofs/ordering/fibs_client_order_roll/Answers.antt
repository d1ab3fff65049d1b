-- The order is given, or refused.
use Rattle.std.proofs.Common.{ap, ◌∙◌}
use Rattle.std.specs.Prelude.{Option}
use Rattle.fibs_session.specs.Calls.Standing.{ClientValue}
use Rattle.fibs_session.specs.History.Machine.{Order}
use Rattle.fibs_c.specs.Records.Statuses.{refusal_status}
use Rattle.fibs_c.specs.OrderDoor.{IsDone, order_refusal_now}
use Rattle.fibs_c.proofs.ClientLemmas.{put_back, unsaid, is_silently_refused}
use Rattle.fibs_c.proofs.ordering.fibs_client_order_roll.Goals as goal

pub returns-in-Some : goal.returns-in-Some
returns-in-Some c =
    let told = c.status_of-status in let done = c.order_roll.ensures in
    let before = c.deref_mut.result.now in let after = c.order_roll.new.self in
    put_back (λ (o n : Option ClientValue). IsDone Order order_refusal_now o n told.result)
    c.args.client.now.value c.of.result.value before c.in-Some.held.value after c.deref_mut.ensures.value
    c.in-Some.ensures.value c.of.ensures
    (record {
      does = unsaid before after Order done.does;
      refused = λ t s. told.ensures ∙ ap refusal_status (done.refusal t s);
      kept = λ nonzero. done.kept (is_silently_refused c.order_roll.result told.result told.ensures nonzero);
    })
