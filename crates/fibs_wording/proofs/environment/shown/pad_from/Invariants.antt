use Rattle.std.proofs.Common.{◌≡◌, ◌++◌, ◌-◌, ◌≤◌, replicate}
use Rattle.fibs_wording.proofs.environment.shown.pad_from.Given as goal

-- the spaces so far, which are not too many
abbrev pub invariant-loop : goal.invariant-loop
invariant-loop l = record {
  spaces : l.text.items ≡ l.fn.text.items ++ replicate (l.counter - l.used) 32;
  few : l.counter - l.used ≤ l.columns - l.used;
}
