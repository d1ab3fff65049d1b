use Rattle.std.proofs.Common.{◌≡◌, map, take}
use Rattle.fibs_rules.specs.PlayValue.{hops_of}
use Rattle.fibs_c.specs.Records.Decisions.{hop_in}
use Rattle.fibs_c.proofs.records.decisions.play_of_steps.Given as goal

abbrev pub invariant-loop-step : goal.invariant-loop-step
invariant-loop-step l = hops_of l.play ≡ map hop_in (take l.step-index l.fn.steps)
