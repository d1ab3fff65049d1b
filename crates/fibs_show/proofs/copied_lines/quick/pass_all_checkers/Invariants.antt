use Rattle.std.proofs.Common.{◌≤◌, ◌+◌, ◌*◌, replicate}
use Rattle.fibs_fields.specs.Board.{checkers}
use Rattle.fibs_show.specs.RightNumbers.{AreRight}
use Rattle.fibs_show.proofs.copied_lines.quick.pass_all_checkers.Given as goal

abbrev pub invariant-loop : goal.invariant-loop
invariant-loop l = record {
  right : AreRight (replicate l.counter checkers) l.text l.fn.at l.at;
  short : l.at ≤ l.fn.at + 3 * l.counter;
}
