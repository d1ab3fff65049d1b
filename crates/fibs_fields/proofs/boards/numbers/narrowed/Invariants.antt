use Rattle.std.proofs.Common.{◌≡◌, length, take, drop}
use Rattle.fibs_fields.proofs.boards.numbers.narrowed.Given as goal

abbrev pub invariant-loop-i : goal.invariant-loop-i
invariant-loop-i l = (length l.small ≡ 31) × (take l.i l.small ≡ take l.i (drop 3 l.numbers))
