use Rattle.std.specs.Io.KnownBytes.{Appends}
use Rattle.fibs_position.specs.PositionValue.{position_value}
use Rattle.fibs_picture.specs.InWords.Words.{stacks, count_on}
use Rattle.fibs_picture.proofs.in_words.stacks.write_stacks.Given as goal

-- the stacks of the places so far are written
abbrev pub invariant-loop-steps : goal.invariant-loop-steps
invariant-loop-steps g l =
    Appends (g.W.Write.contents l.initial.out) (g.W.Write.contents l.out)
    (stacks l.direction l.side (count_on (position_value l.position).standing.checkers l.side)
    l.steps)
