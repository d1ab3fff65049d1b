use Rattle.std.proofs.Common.{◌≡◌, ◌≤◌, ◌+◌, ◌*◌, ◌++◌, length, take, map}
use Rattle.std.specs.Prelude.{codes}
use Rattle.fibs_rules.specs.Hop.{hop_of}
use Rattle.fibs_commands.specs.Commands.{steps_text}
use Rattle.fibs_commands.proofs.decisions.move_text.Given as goal

abbrev pub invariant-loop-step : goal.invariant-loop-step
invariant-loop-step l = record {
  written : l.text.bytes ≡ codes "move" ++ steps_text l.direction (map hop_of (take l.step-index l.steps));
  short : length l.text.bytes ≤ 4 + 8 * l.step-index;
}
