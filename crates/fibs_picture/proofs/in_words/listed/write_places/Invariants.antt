use Rattle.fibs_position.specs.PositionValue.{position_value}
use Rattle.fibs_picture.specs.InWords.Words.{counted_by}
use Rattle.fibs_picture.proofs.WordsLemmas.Growing.{ListedSo}
use Rattle.fibs_picture.proofs.in_words.listed.write_places.Given as goal

-- the numbers of the places so far are written, and counted
abbrev pub invariant-loop-before : goal.invariant-loop-before
invariant-loop-before g l =
    ListedSo (position_value l.position).standing.checkers l.which l.direction (counted_by l.which) l.before l.count
    (g.W.Write.contents l.initial.out) (g.W.Write.contents l.out)
