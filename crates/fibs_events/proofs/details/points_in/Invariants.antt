use Rattle.std.proofs.Common.{true}
use Rattle.fibs_events.specs.Texts.{is_win, points_said}
use Rattle.fibs_events.proofs.SaidLemmas.{SaysSame}
use Rattle.fibs_events.proofs.details.points_in.Given as goal

-- the words that are left say what all say
abbrev pub invariant-loop-word : goal.invariant-loop-word
invariant-loop-word l = SaysSame points_said is_win true l.is_next l.yielded
