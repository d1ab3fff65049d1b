use Rattle.fibs_rules.proofs.RuleLemmas.StepsSwap as lemmas
use Rattle.fibs_rules.proofs.laws.steps_swap.Goals as goal

pub returns : goal.returns
returns c = lemmas.steps_swap
