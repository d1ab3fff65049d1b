use Rattle.fibs_commands.proofs.OtherTexts.{style_is_other}
use Rattle.fibs_commands.proofs.laws.style_is_other.Goals as goal

pub returns : goal.returns
returns c = style_is_other c.read_command_is_exact.ensures c.first_are_sent.ensures
