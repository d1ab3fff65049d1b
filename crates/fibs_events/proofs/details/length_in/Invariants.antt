use Rattle.std.proofs.Common.{false}
use Rattle.fibs_events.specs.Texts.{is_article, length_said}
use Rattle.fibs_events.proofs.SaidLemmas.{SaysSame}
use Rattle.fibs_events.proofs.details.length_in.Given as goal

-- the words that are left say what all say
abbrev pub invariant-loop-word : goal.invariant-loop-word
invariant-loop-word l = SaysSame length_said is_article false l.is_next l.yielded
