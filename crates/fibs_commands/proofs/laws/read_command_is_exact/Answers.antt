use Rattle.fibs_commands.proofs.ReadingCommands.{read_command_is_exact}
use Rattle.fibs_commands.proofs.laws.read_command_is_exact.Goals as goal

pub returns : goal.returns
returns c = read_command_is_exact c.decimals_are_exact.ensures
