use Rattle.std.proofs.Common.{◌≡◌, take}
use Rattle.fibs_json.specs.Counting.{with_events}
use Rattle.fibs_json.proofs.eventful.Counts.count_events.Given as goal

-- the events so far are counted
abbrev pub invariant-loop-event : goal.invariant-loop-event
invariant-loop-event l = l.self ≡ with_events l.fn.self (take l.event-index l.events)
