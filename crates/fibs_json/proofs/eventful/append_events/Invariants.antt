use Rattle.std.proofs.Common.{◌≡◌, ◌++◌, take}
use Rattle.fibs_json.specs.Eventful.{event_lines}
use Rattle.fibs_json.proofs.eventful.append_events.Given as goal

abbrev pub invariant-loop-event : goal.invariant-loop-event
invariant-loop-event l = l.text.items ≡ l.initial.text.items ++ event_lines l.number (take l.event-index l.events)
