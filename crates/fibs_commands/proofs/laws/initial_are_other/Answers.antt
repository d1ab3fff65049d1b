use Rattle.fibs_commands.proofs.OtherTexts.{initial_are_other}
use Rattle.fibs_commands.proofs.laws.initial_are_other.Goals as goal

pub returns : goal.returns
returns c = initial_are_other c.read_command_is_exact.ensures c.first_are_sent.ensures
