-- What is reported of the players of a directory.
use Rattle.std.specs.Prelude.{List, map}
use Rattle.fibs_messages.specs.Message.{MessageValue}
use Rattle.fibs_connect.specs.Told.{SaidValue, player_said}

-- the players in the order of the directory
abbrev pub players_told : List MessageValue → List SaidValue
players_told entries = map player_said entries
