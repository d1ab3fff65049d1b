use Rattle.fibs_advice.proofs.spelling.moves.+with_times.Given as goal

abbrev pub decreases-with_times : goal.decreases-with_times
decreases-with_times l = l.times
