use Rattle.std.proofs.Common.{◌-◌, length}
use Rattle.fibs_picture.proofs.WordsLemmas.Breaking.{RowSo}
use Rattle.fibs_picture.proofs.in_words.broken.append_broken.Given as goal

-- the row is written up to a place
abbrev pub invariant-loop-at : goal.invariant-loop-at
invariant-loop-at l = RowSo l.row l.columns l.at l.column l.initial.text.items l.text.items

-- what is left of it
abbrev pub decreases-loop-at : goal.decreases-loop-at
decreases-loop-at l = length l.row - l.at
