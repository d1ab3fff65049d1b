use Rattle.std.proofs.Common.{◌≡◌, ◌<◌, ℕ, get_or, true}
use Rattle.fibs_fields.specs.Runs.{is_between}
use Rattle.fibs_fields.proofs.runs.run_of.Given as goal

abbrev pub invariant-loop-i : goal.invariant-loop-i
invariant-loop-i l = (k : ℕ) → k < l.i → is_between l.low l.high l.except (get_or l.text k 0) ≡ true
