use Rattle.std.proofs.Common.{◌≡◌, ◌≤◌, ◌+◌, ◌*◌, ◌++◌, length, take}
use Rattle.fibs_c.specs.BoardLineDoor.{numbers_text}
use Rattle.fibs_c.proofs.board_lines.append_numbers.Given as goal

abbrev pub invariant-loop-number : goal.invariant-loop-number
invariant-loop-number l = record {
  written : l.line.items ≡ l.initial.line.items ++ numbers_text (take l.number-index l.numbers);
  short : length l.line.items ≤ 135 + 12 * l.number-index;
}
