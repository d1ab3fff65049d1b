use Rattle.std.proofs.Common.{◌≡◌, ◌+◌, List, [], length, take}
use Rattle.fibs_fields.specs.Board.{BoardFields}
use Rattle.fibs_model.specs.Crossings.{crossings}
use Rattle.fibs_model.specs.Events.{Event}
use Rattle.fibs_replay.specs.Output.{script_login}
use Rattle.fibs_replay.specs.Running.{StandsFrom}
use Rattle.fibs_replay.specs.Scripts.{SayEvents}
use Rattle.fibs_replay.proofs.ReplayLemmas.Runs.{Readable, Running}
use Rattle.fibs_replay.proofs.run.run_lines.Given as goal

-- so many events were done, and the lines that are left say the others
abbrev pub invariant-loop-line : goal.invariant-loop-line
invariant-loop-line g l = record {
  count : l.done + length l.lines ≡ length l.initial.lines;
  readable : Readable l.lines;
  run : (first : BoardFields) (events : List Event) → StandsFrom l.initial.world first []
      → SayEvents l.initial.lines events
      → Running first events l.world l.lines l.done;
  given : (first : BoardFields) (events : List Event) → StandsFrom l.initial.world first []
      → SayEvents l.initial.lines events
      → g.C.Carrier.carries l.initial.carrier (crossings script_login first (take l.done events)) l.carrier;
}

abbrev pub decreases-loop-line : goal.decreases-loop-line
decreases-loop-line g l = length l.lines
