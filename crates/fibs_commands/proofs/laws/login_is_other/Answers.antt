use Rattle.fibs_commands.proofs.OtherTexts.{login_is_other}
use Rattle.fibs_commands.proofs.laws.login_is_other.Goals as goal

pub returns : goal.returns
returns c = login_is_other c.read_command_is_exact.ensures c.logins_are_sent.ensures
