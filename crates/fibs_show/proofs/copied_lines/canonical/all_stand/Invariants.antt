use Rattle.std.proofs.Common.{take}
use Rattle.fibs_fields.specs.Split.{seen}
use Rattle.fibs_show.specs.Standing.{kinds_seen, AllStand}
use Rattle.fibs_show.proofs.copied_lines.canonical.all_stand.Given as goal

-- the fields so far are as they are printed
abbrev pub invariant-loop-kind : goal.invariant-loop-kind
invariant-loop-kind l = AllStand (kinds_seen (take l.kind-index l.kinds)) (seen l.fields) (seen l.rest)
