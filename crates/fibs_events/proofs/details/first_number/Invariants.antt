use Rattle.std.proofs.Common.{true}
use Rattle.fibs_events.specs.Texts.{points_said}
use Rattle.fibs_events.proofs.SaidLemmas.{SaysSame}
use Rattle.fibs_events.proofs.details.first_number.Given as goal

-- the words that are left say what all say
abbrev pub invariant-loop-word : goal.invariant-loop-word
invariant-loop-word l = SaysSame points_said (λ word. true) true true l.yielded
