use Rattle.fibs_json.proofs.ToldLemmas.{go_in_again}
use Rattle.fibs_json.proofs.laws.boards_go_in_again.Goals as goal

pub returns : goal.returns
returns c = go_in_again
