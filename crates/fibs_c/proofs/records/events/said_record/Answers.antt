-- The event is added to none.
use Rattle.std.proofs.Common.{[]}
use Rattle.fibs_c.specs.Records.EventOf.{events_in}
use Rattle.fibs_c.proofs.EventLemmas.{gained}
use Rattle.fibs_c.proofs.records.events.said_record.Goals as goal

pub returns-clause-events : goal.returns-clause-events
returns-clause-events c =
    gained [] (events_in c.push.new.told) [] c.said.result c.args.event.now c.push.ensures.events tt c.said.ensures
