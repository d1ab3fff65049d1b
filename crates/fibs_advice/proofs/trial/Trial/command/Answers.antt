use Rattle.fibs_position.specs.declared.decision.Decision.TheVariants.{Move}
use Rattle.fibs_advice.proofs.trial.Trial.command.Goals as goal

pub returns-clause-valid : goal.returns-clause-valid
returns-clause-valid c = c.decisions_are_valid.ensures (Move c.args.self.now.play)
