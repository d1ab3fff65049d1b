use Rattle.std.proofs.Common.{◌≡◌, map, drop}
use Rattle.fibs_rules.specs.Hop.{hop_of}
use Rattle.fibs_rules.specs.LaxPlays.{lax_of}
use Rattle.fibs_rules.proofs.arrangement.Arrangement.carried_out.Given as goal

abbrev pub invariant-loop-step : goal.invariant-loop-step
invariant-loop-step l = lax_of l.at (map hop_of (drop l.step-index l.steps)) ≡ lax_of l.self (map hop_of l.steps)
