use Rattle.std.proofs.Common.{◌≡◌, map}
use Rattle.fibs_wording.specs.Broken.{spaced}
use Rattle.fibs_wording.proofs.environment.broken.break_at_spaces.Given as goal

abbrev pub invariant-loop-place : goal.invariant-loop-place
invariant-loop-place l = map spaced l.text.items ≡ map spaced l.fn.text.items
