use Rattle.fibs_commands.proofs.CommandLemmas.{commands_tell_decisions}
use Rattle.fibs_commands.proofs.laws.commands_tell_decisions.Goals as goal

pub returns : goal.returns
returns c = commands_tell_decisions
