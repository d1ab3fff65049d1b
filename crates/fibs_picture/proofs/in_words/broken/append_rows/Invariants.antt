use Rattle.std.proofs.Common.{◌+◌, ◌-◌, length}
use Rattle.fibs_picture.proofs.WordsLemmas.Saying.{RowsSo}
use Rattle.fibs_picture.proofs.in_words.broken.append_rows.Given as goal

-- the rows are written up to a place
abbrev pub invariant-loop-at : goal.invariant-loop-at
invariant-loop-at l = RowsSo l.rows l.columns l.at l.initial.text.items l.text.items

-- what is left of them
abbrev pub decreases-loop-at : goal.decreases-loop-at
decreases-loop-at l = (length l.rows + 1) - l.at
