-- What the server does on each connection, one act after another, over a list of events.
use Rattle.std.specs.Prelude.{ℕ, List, [], ◌∷◌, ◌++◌, Option, Some, None, if◌then◌else◌, nat_eq, flat_map}
use Rattle.fibs_game.specs.Game.{Game}
use Rattle.fibs_game.specs.Machine.{on_wire}
use Rattle.fibs_game.specs.Events.{Event, Open, Click, Plain, Deliver, Lose, Serve, Own, Repeat, Text, Order, Withdraw}
use Rattle.fibs_game.specs.Server.{Served, Stale, LoggedIn, Took, Undone, Answered, answered}
use Rattle.fibs_game.specs.Wires.{next_line}
use Rattle.fibs_game.specs.World.{World, after, is_talking, start, server_of, line_of}

-- an act of the server on a connection
pub data Act (G : Game) : Type 0 where
  -- it sends a board there
  Shows : G.Board → Act G
  -- it sends another line there
  Says : List ℕ → Act G
  -- it serves a decision of that connection, whether it carries it out or not
  Serves : G.Decision → Act G

module _ {G : Game} where
  -- the bytes that an act puts on the wire to the client
  abbrev pub bytes_of : Act G → List ℕ
  bytes_of (Shows b) = on_wire (G.spelling b)
  bytes_of (Says t) = on_wire t
  bytes_of (Serves d) = []

  -- those of all acts
  abbrev pub put_by : List (Act G) → List ℕ
  put_by acts = flat_map bytes_of acts

  -- a line goes out if the connection that is logged in is open
  abbrev pub sending : World G → Act G → List (Act G)
  sending w a = if is_talking w then a ∷ [] else []

  -- what the server does at its answer to a line: a decision is answered by the board after it
  abbrev pub acts_of : World G → Served G → List (Act G)
  acts_of w Stale = []
  acts_of w LoggedIn = []
  acts_of w (Took d b) = Serves d ∷ sending w (Shows b)
  acts_of w (Undone d) = Serves d ∷ sending w (Shows w.board)
  acts_of w Answered = sending w (Shows w.board)

  -- what it does at the next line of c, with two dice
  abbrev pub acts_at_line : World G → ℕ → ℕ → ℕ → Option (List ℕ × List ℕ) → List (Act G)
  acts_at_line w c d1 d2 None = []
  acts_at_line w c d1 d2 (Some p) = acts_of w (answered (server_of w) (line_of w c p.0 d1 d2))

  -- what it does at an event that is accepted, on the connection that is logged in before it
  abbrev pub acts_at : World G → Event G → List (Act G)
  acts_at w Open = []
  acts_at w (Click d) = []
  acts_at w (Plain p) = []
  acts_at w (Deliver n) = []
  acts_at w (Lose k) = []
  acts_at w (Serve c d1 d2) = acts_at_line w c d1 d2 (next_line (w.links c).asked)
  acts_at w (Own b) = sending w (Shows b)
  acts_at w Repeat = sending w (Shows w.board)
  acts_at w (Text t) = sending w (Says t)
  acts_at w Order = []
  acts_at w Withdraw = []

  -- what it does at an event on the connection c
  abbrev pub acts_on : World G → Event G → ℕ → List (Act G)
  acts_on w e c = if nat_eq c w.logged_in then acts_at w e else []

  -- what it does on c over events that are accepted, from a world on
  abbrev pub acts_from : List ℕ → World G → List (Event G) → ℕ → List (Act G)
  acts_from login w [] c = []
  acts_from login w (e ∷ es) c = acts_on w e c ++ acts_from login (after login w e) es c

  -- what it does on c over a list of events, from the first board on
  unfoldable pub acts_after : List ℕ → G.Board → List (Event G) → ℕ → List (Act G)
  acts_after login first events c = acts_from login (start first) events c
