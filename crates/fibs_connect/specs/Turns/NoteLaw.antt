-- A directory would not note what a turn leaves undone at a failed write.
use Rattle.std.specs.Prelude.{◌≢◌, ℕ, List, Option}
use Rattle.std.specs.List.{AllByRecursion}
use Rattle.fibs_messages.specs.Message.{MessageValue}
use Rattle.fibs_session.specs.Calls.Standing.{ClientValue}
use Rattle.fibs_session.specs.History.Machine.{Talk}
use Rattle.fibs_connect.specs.declared.turns.Ending.{Ending}
use Rattle.fibs_connect.specs.Turns.Script.{Outside}
use Rattle.fibs_connect.specs.Turns.Turn.{Turned}

-- a directory notes only messages 5 and 8
abbrev pub TellsNothing : MessageValue → Type 0
TellsNothing m = (m.number ≢ 5) × (m.number ≢ 8)

-- no line that calls for commands is a message that is about players. So the directory after a turn is also that of all
-- messages heard but those that it refused
abbrev pub TurnsLeaveNoPlayer : Type 0
TurnsLeaveNoPlayer =
    (t : Talk) (new : ClientValue) (typed left still : Option (List ℕ)) (a b : Outside (Option (List ℕ)))
    (e : Ending)
    (turned : Turned t new typed left still a b e)
    → AllByRecursion (λ act. AllByRecursion TellsNothing act.notes) turned.did.hand
