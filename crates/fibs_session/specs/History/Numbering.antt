-- What is noted belongs to connections that were opened, of backgammon. No public contract opens it.
use Rattle.std.specs.Prelude.{ℕ, List}
use Rattle.fibs_game.specs.Numbering as A
use Rattle.fibs_session.specs.History.Log.{Entry}

-- nothing is noted of the connection
abbrev pub Quiet : ℕ → List Entry → Type 0
Quiet c log = A.Quiet c log

-- what is noted is of connections that were opened
abbrev pub Numbered : List Entry → Type 0
Numbered log = A.Numbered log
