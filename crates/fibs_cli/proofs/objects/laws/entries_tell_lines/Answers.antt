use Rattle.fibs_cli.proofs.TellingLemmas.{entries_tell}
use Rattle.fibs_cli.proofs.objects.laws.entries_tell_lines.Goals as goal

pub returns : goal.returns
returns c = entries_tell c.openings_tell.ensures
