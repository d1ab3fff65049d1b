use Rattle.std.proofs.Common.{◌≡◌, take}
use Rattle.std.specs.List.{list_any}
use Rattle.fibs_engine.specs.Escape.{is_escaped}
use Rattle.fibs_engine.proofs.escape.any_escaped.Given as goal

-- what is found so far
abbrev pub invariant-loop-byte : goal.invariant-loop-byte
invariant-loop-byte l = l.found ≡ list_any is_escaped (take l.byte-index l.bytes)
