use Rattle.std.proofs.Common.{ℕ, List, slice_index}
use Rattle.fibs_fields.specs.Board.{BoardFields}
use Rattle.fibs_model.specs.Events.{Event}
use Rattle.fibs_model.specs.WorldCalls.{WorldStandsAfter}
use Rattle.fibs_model.proofs.Likeness.Settling.{OnItsWay}
use Rattle.fibs_model.proofs.world.World.settle.Given as goal

-- as many events as were done came next, one after another
abbrev pub invariant-loop-done : goal.invariant-loop-done
invariant-loop-done l =
    (name password : List ℕ) (first : BoardFields) (before : List Event)
    → WorldStandsAfter l.fn.self name password first before
    → OnItsWay name password first before (slice_index l.dice 0) (slice_index l.dice 1) l.self l.done
