use Rattle.std.proofs.Common.{◌≡◌, ◌++◌, take}
use Rattle.std.specs.List.{flat_map}
use Rattle.fibs_json.specs.Json.{more_number}
use Rattle.fibs_json.proofs.members.append_rest.Given as goal

abbrev pub invariant-loop-number : goal.invariant-loop-number
invariant-loop-number l = l.text.items ≡ l.initial.text.items ++ flat_map more_number (take l.number-index l.numbers)
