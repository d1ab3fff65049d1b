use Rattle.std.proofs.Common.{◌≡◌, ◌++◌, take}
use Rattle.fibs_json.specs.Json.{inside}
use Rattle.fibs_json.proofs.strings.append_inside.Given as goal

abbrev pub invariant-loop-byte : goal.invariant-loop-byte
invariant-loop-byte l = l.text.items ≡ l.initial.text.items ++ inside (take l.byte-index l.bytes)
