-- What is noted as it happens, by a client and by the model server, of backgammon (the project's own).
use Rattle.fibs_session.specs.Fibs.{fibs}
use Rattle.fibs_game.specs.Log as A
pub use Rattle.fibs_game.specs.Game.{Flags}
pub use Rattle.fibs_game.specs.Log.{Opened, LoggedIn, Welcomed, Informed, Shown, Clicked, Sent, Took, Undone, Lost, Ordered, Withdrawn}

-- an entry of the log
abbrev pub Entry : Type 0
Entry = A.Entry fibs
