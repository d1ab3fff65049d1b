use Rattle.std.proofs.Common.{◌≡◌, length, map, take, drop}
use Rattle.fibs_rules.specs.Hop.{hop_of}
use Rattle.fibs_c.specs.Records.Decisions.{hop_in, zero_steps}
use Rattle.fibs_c.proofs.records.decisions.play_record.Given as goal

abbrev pub invariant-loop-i : goal.invariant-loop-i
invariant-loop-i l =
    (l.told.kind ≡ 5) × (length l.told.steps ≡ 4)
    × (map hop_in (take l.i l.told.steps) ≡ map hop_of (take l.i l.steps))
    × (drop l.i l.told.steps ≡ drop l.i zero_steps)
