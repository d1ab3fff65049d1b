use Rattle.fibs_json.proofs.TellingLemmas.{plays_tell}
use Rattle.fibs_json.proofs.laws.plays_tell_lines.Goals as goal

pub returns : goal.returns
returns c = plays_tell
