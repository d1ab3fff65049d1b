use Rattle.fibs_wording.specs.Shown.{AddsShown}
use Rattle.fibs_wording.proofs.environment.shown.append_text.Given as goal

-- what was shown so far comes behind what was there
abbrev pub invariant-loop-c : goal.invariant-loop-c
invariant-loop-c l = AddsShown l.fn.text.items l.text.items
