use Rattle.std.proofs.Common.{◌≡◌, ◌++◌, ℕ, List, take}
use Rattle.fibs_events.specs.declared.event.Event.TheVariants as E
use Rattle.fibs_json.specs.Counting.{one_more}
use Rattle.fibs_json.specs.Events.{event_object}
use Rattle.fibs_json.specs.Passing.{Refused}
use Rattle.fibs_json.proofs.eventful.EventObjects.append_refusals.Given as goal

-- the bytes before this one were heard, and what they tell was appended
abbrev pub invariant-loop-byte : goal.invariant-loop-byte
invariant-loop-byte l =
    (l.self.place ≡ l.initial.self.place) × (l.self.counts.lines ≡ l.initial.self.counts.lines)
    × ((added : List ℕ) × (l.text.items ≡ l.initial.text.items ++ added)
    × Refused l.initial.self.asking l.self.asking (take l.byte-index l.bytes)
    (event_object (one_more l.initial.self.place.lines) E.LoginRefused) added)
