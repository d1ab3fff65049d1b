use Rattle.fibs_commands.proofs.OtherTexts.{plain_is_other}
use Rattle.fibs_commands.proofs.laws.plain_is_other.Goals as goal

pub returns : goal.returns
returns c = plain_is_other c.read_command_is_exact.ensures c.plain_is_sent.ensures
