use Rattle.std.proofs.Common.{◌≡◌, vec_len}
use Rattle.fibs_advice.proofs.plays.cells_of.Given as goal

-- a cell for each so far
abbrev pub invariant-loop-play : goal.invariant-loop-play
invariant-loop-play l = vec_len l.cells ≡ l.play-index
