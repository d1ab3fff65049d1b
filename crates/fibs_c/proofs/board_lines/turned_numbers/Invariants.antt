use Rattle.std.proofs.Common.{◌≡◌, ◌+◌, ◌<◌, ℕ, pos, length, slice_index_or}
use Rattle.fibs_fields.specs.StoredBoard.{fields_of}
use Rattle.fibs_c.specs.BoardLineDoor.{turned_field}
use Rattle.fibs_c.proofs.board_lines.turned_numbers.Given as goal

abbrev pub invariant-loop-i : goal.invariant-loop-i
invariant-loop-i l = (length l.numbers ≡ 50)
    × ((j : ℕ) → j < l.i → slice_index_or l.numbers j (pos 0) ≡ turned_field (fields_of l.fn.board) (j + 4))
