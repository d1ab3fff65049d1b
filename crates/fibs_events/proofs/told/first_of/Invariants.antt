use Rattle.std.proofs.Common.{take}
use Rattle.fibs_events.specs.Told.{HasNone}
use Rattle.fibs_events.proofs.told.first_of.Given as goal

-- the text has none of the shapes so far
abbrev pub invariant-loop-shape : goal.invariant-loop-shape
invariant-loop-shape l = HasNone l.text (take l.shape-index l.shapes)
