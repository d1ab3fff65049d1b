use Rattle.std.proofs.Common.{◌≤◌, ◌+◌, ◌*◌, length, replicate}
use Rattle.fibs_fields.specs.Board.{place}
use Rattle.fibs_show.specs.RightNumbers.{AreRight}
use Rattle.fibs_show.proofs.copied_lines.quick.pass_places.Given as goal

abbrev pub invariant-loop-i : goal.invariant-loop-i
invariant-loop-i l = record {
  right : AreRight (replicate l.i place) l.text l.fn.at l.at;
  room : l.at + 78 ≤ length l.text + 3 * l.i;
}
