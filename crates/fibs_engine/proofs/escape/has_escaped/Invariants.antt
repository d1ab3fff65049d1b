use Rattle.std.proofs.Common.{◌≡◌, ◌≤◌, ◌-◌, length, take, drop}
use Rattle.std.specs.Prelude.{◌||◌}
use Rattle.std.specs.List.{list_any}
use Rattle.fibs_engine.specs.Escape.{is_escaped}
use Rattle.fibs_engine.proofs.escape.has_escaped.Given as goal

-- what is found in the last window, and in those so far
abbrev pub invariant-loop-at : goal.invariant-loop-at
invariant-loop-at l = record {
  within : l.at ≤ length l.bytes;
  found : l.found ≡ (list_any is_escaped (drop (length l.bytes - 16) l.bytes)
      || list_any is_escaped (take l.at l.bytes));
}

abbrev pub decreases-loop-at : goal.decreases-loop-at
decreases-loop-at l = length l.bytes - l.at
