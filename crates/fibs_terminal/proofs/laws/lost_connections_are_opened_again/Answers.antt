use Rattle.fibs_terminal.proofs.AgainLemmas.{opens_again}
use Rattle.fibs_terminal.proofs.laws.lost_connections_are_opened_again.Goals as goal

pub returns : goal.returns
returns c = opens_again
