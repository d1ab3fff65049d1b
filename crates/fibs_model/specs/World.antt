-- The world as a machine over events, of backgammon: a server, the wires to its connections, and the log of what
-- happened.
use Rattle.fibs_fields.specs.Board.{BoardFields}
use Rattle.fibs_game.specs.World as A
use Rattle.fibs_session.specs.Fibs.{fibs}
pub use Rattle.fibs_game.specs.World.{talk_of, noted, linked, is_talking, sends, does_served, server_of, line_of, serves, changed, client_does, after}

-- a world
abbrev pub World : Type 0
World = A.World fibs

-- the world at first
abbrev pub start : BoardFields → World
start = A.start
