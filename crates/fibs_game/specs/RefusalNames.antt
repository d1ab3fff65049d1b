-- The numbers and names of a client's refusals (the project's own).
use Rattle.std.specs.Prelude.{ℕ, List, codes}
use Rattle.fibs_game.specs.declared.refusal.Refusal.{Refusal}
use Rattle.fibs_game.specs.declared.refusal.Refusal.TheVariants.{AlreadyOpen, Offline, NotReady, ServerPlays, NoBoard, Waiting, NotYours, WrongKind, IllegalPlay, NotOn, AlreadyOrdered, NotOrdered}

abbrev pub refusal_number : Refusal → ℕ
refusal_number AlreadyOpen = 1
refusal_number Offline = 2
refusal_number NotReady = 3
refusal_number ServerPlays = 4
refusal_number NoBoard = 5
refusal_number Waiting = 6
refusal_number NotYours = 7
refusal_number WrongKind = 8
refusal_number IllegalPlay = 9
refusal_number NotOn = 10
refusal_number AlreadyOrdered = 11
refusal_number NotOrdered = 12

abbrev pub refusal_name : Refusal → List ℕ
refusal_name AlreadyOpen = codes "AlreadyOpen"
refusal_name Offline = codes "Offline"
refusal_name NotReady = codes "NotReady"
refusal_name ServerPlays = codes "ServerPlays"
refusal_name NoBoard = codes "NoBoard"
refusal_name Waiting = codes "Waiting"
refusal_name NotYours = codes "NotYours"
refusal_name WrongKind = codes "WrongKind"
refusal_name IllegalPlay = codes "IllegalPlay"
refusal_name NotOn = codes "NotOn"
refusal_name AlreadyOrdered = codes "AlreadyOrdered"
refusal_name NotOrdered = codes "NotOrdered"
