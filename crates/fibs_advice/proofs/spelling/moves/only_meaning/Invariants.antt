use Rattle.std.specs.Prelude.{IfSome}
use Rattle.fibs_rules.specs.PlayValue.{hops_of}
use Rattle.fibs_advice.specs.Spelling.{LeadsSame}
use Rattle.fibs_advice.proofs.spelling.moves.only_meaning.Given as goal

-- what was found leads the same
abbrev pub invariant-loop-play : goal.invariant-loop-play
invariant-loop-play l = IfSome l.found (λ play. LeadsSame (hops_of l.typed) (hops_of play))
