use Rattle.fibs_wording.specs.Shown.{AddsShown}
use Rattle.fibs_wording.proofs.environment.shown.append_bytes.Given as goal

-- what was shown so far comes behind what was there
abbrev pub invariant-loop-byte : goal.invariant-loop-byte
invariant-loop-byte l = AddsShown l.fn.text.items l.text.items
