-- What the server does on each connection, of backgammon.
use Rattle.fibs_game.specs.Acts as A
use Rattle.fibs_session.specs.Fibs.{fibs}
pub use Rattle.fibs_game.specs.Acts.{Shows, Says, Serves, bytes_of, put_by, sending, acts_of, acts_at_line, acts_at, acts_on, acts_from}
unfoldable pub use Rattle.fibs_game.specs.Acts.{acts_after}

-- an act of the server on a connection
abbrev pub Act : Type 0
Act = A.Act fibs
