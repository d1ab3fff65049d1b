use Rattle.fibs_connect.proofs.ConverseLemmas.PlayerLines.{listed}
use Rattle.fibs_connect.proofs.players.tell_players.Given as goal

-- the first players are reported
abbrev pub invariant-loop-place : goal.invariant-loop-place
invariant-loop-place g l = g.F.Front.tells l.initial.front (listed l.place l.directory) l.front
