use Rattle.fibs_cli.proofs.TellingLemmas.{said_tell}
use Rattle.fibs_cli.proofs.objects.laws.said_tell_lines.Goals as goal

pub returns : goal.returns
returns c = said_tell c.openings_tell.ensures
