use Rattle.fibs_rules.proofs.LawLemmas.PlaySteps.{legal_plays_are_steps}
use Rattle.fibs_rules.proofs.laws.legal_plays_are_steps.Goals as goal

pub returns : goal.returns
returns c = legal_plays_are_steps
