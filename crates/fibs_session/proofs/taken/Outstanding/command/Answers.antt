use Rattle.std.proofs.Common.{ap, ◌∙◌}
use Rattle.fibs_position.specs.DecisionValue.{decision_of}
use Rattle.fibs_commands.specs.Commands.{command_of}
use Rattle.fibs_session.proofs.taken.Outstanding.command.Goals as goal

pub returns : goal.returns
returns c =
    c.decision_text.ensures ∙ ap (λ direction. command_of direction (decision_of c.args.self.now.decision)) c.of.ensures
