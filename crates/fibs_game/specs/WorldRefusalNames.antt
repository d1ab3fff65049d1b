-- The numbers and names of the refusals of events (the project's own).
use Rattle.std.specs.Prelude.{ℕ, List, codes}
use Rattle.fibs_game.specs.declared.world_refusal.WorldRefusal.{WorldRefusal}
use Rattle.fibs_game.specs.declared.world_refusal.WorldRefusal.TheVariants.{Memory, AlreadyOpen, NotOpen, NoSuchConnection, NothingToServe, UserDecides, BoardAsText, BadBoard, BadDice}

abbrev pub refusal_number : WorldRefusal → ℕ
refusal_number Memory = 1
refusal_number AlreadyOpen = 2
refusal_number NotOpen = 3
refusal_number NoSuchConnection = 4
refusal_number NothingToServe = 5
refusal_number UserDecides = 6
refusal_number BoardAsText = 7
refusal_number BadBoard = 8
refusal_number BadDice = 9

abbrev pub refusal_name : WorldRefusal → List ℕ
refusal_name Memory = codes "Memory"
refusal_name AlreadyOpen = codes "AlreadyOpen"
refusal_name NotOpen = codes "NotOpen"
refusal_name NoSuchConnection = codes "NoSuchConnection"
refusal_name NothingToServe = codes "NothingToServe"
refusal_name UserDecides = codes "UserDecides"
refusal_name BoardAsText = codes "BoardAsText"
refusal_name BadBoard = codes "BadBoard"
refusal_name BadDice = codes "BadDice"
