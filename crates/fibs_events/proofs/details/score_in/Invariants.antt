use Rattle.std.proofs.Common.{true}
use Rattle.fibs_events.specs.Texts.{score_said}
use Rattle.fibs_events.proofs.SaidLemmas.{SaysSame}
use Rattle.fibs_events.proofs.details.score_in.Given as goal

-- the words that are left say what all say
abbrev pub invariant-loop-word : goal.invariant-loop-word
invariant-loop-word l = SaysSame score_said (λ word. true) true true l.yielded
