use Rattle.std.proofs.Common.{◌≡◌, ◌++◌, map, take}
use Rattle.std.specs.List.{flat_map}
use Rattle.fibs_rules.specs.Hop.{hop_of}
use Rattle.fibs_json.specs.Json.{more_item}
use Rattle.fibs_json.specs.Plays.{step_text}
use Rattle.fibs_json.proofs.plays.append_next_steps.Given as goal

abbrev pub invariant-loop-step : goal.invariant-loop-step
invariant-loop-step l = l.text.items ≡ l.initial.text.items ++ flat_map (more_item step_text)
    (map hop_of (take l.step-index l.steps))
