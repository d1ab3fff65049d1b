-- The server of the world never meets a stale line, of backgammon.
use Rattle.fibs_game.specs.Stale as A
use Rattle.fibs_model.specs.World.{World}

-- an event that would make it is refused
abbrev pub NoneStale : World → Type 0
NoneStale w = A.NoneStale w
