use Rattle.std.proofs.Common.{◌≡◌, ◌+◌, ◌-◌, ◌*◌, [], replicate, true}
use Rattle.fibs_show.specs.RightNumbers.{AreRight, are_right}
use Rattle.fibs_fields.specs.declared.values.Values.{Values}
use Rattle.fibs_show.proofs.copied_lines.quick.pass_digits.Given as goal

abbrev pub invariant-loop : goal.invariant-loop
invariant-loop l = record {
  right : (values : Values) → are_right values [] 48 (l.most + 1 - 48) ≡ true
      → AreRight (replicate l.counter values) l.text l.fn.at l.at;
  place : l.at ≡ l.fn.at + 2 * l.counter;
}
