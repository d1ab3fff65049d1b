use Rattle.fibs_connect.proofs.TurnLemmas.Noted.{turns_leave_no_player}
use Rattle.fibs_connect.proofs.turns.laws.turns_leave_no_player.Goals as goal

pub returns : goal.returns
returns c = turns_leave_no_player
