use Rattle.std.proofs.Common.{◌≡◌, ℕ, List, ◌++◌, map, take}
use Rattle.fibs_fields.specs.Board.{BoardFields}
use Rattle.fibs_model.specs.EventOf.{event_of}
use Rattle.fibs_model.specs.Events.{Event}
use Rattle.fibs_model.specs.WorldCalls.{WorldStandsAfter}
use Rattle.fibs_model.proofs.world.World.run.Given as goal

-- the world is at the events before and those done
abbrev pub invariant-loop-event : goal.invariant-loop-event
invariant-loop-event l = record {
  count : l.done ≡ l.event-index;
  stands : (name password : List ℕ) (first : BoardFields) (before : List Event)
      → WorldStandsAfter l.fn.self name password first before
      → WorldStandsAfter l.self name password first (before ++ take l.done (map event_of l.events));
}
