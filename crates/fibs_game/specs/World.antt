-- The world as a machine over events: a server, the wires to its connections, and the log of what happened. It holds no
-- client: `talk_of` reads the client of the newest connection.
use Rattle.std.specs.Prelude.{ℕ, Bool, not, ◌&&◌, List, [], ◌∷◌, ◌++◌, Option, Some, None, if◌then◌else◌, nat_eq, take}
use Rattle.fibs_game.specs.Game.{Game}
use Rattle.fibs_game.specs.Log.{Entry}
use Rattle.fibs_game.specs.Log as L
use Rattle.fibs_game.specs.Words.{is_empty, open_now, connections}
use Rattle.fibs_game.specs.Machine.{Talk, Outcome, step, on_wire, wire_of}
use Rattle.fibs_game.specs.Machine as M
use Rattle.fibs_game.specs.Wires.{Link, empty_link, more_coming, delivered, more_asked, taken, cut_off, next_line}
use Rattle.fibs_game.specs.Server.{ServerValue, TakenLine, Served, Stale, LoggedIn, Took, Undone, Answered, answered}
use Rattle.fibs_game.specs.Events.{Event, Open, Click, Plain, Deliver, Lose, Serve, Own, Repeat, Text, Order, Withdraw}

pub record World (G : Game) : Type 0 where
  -- the server's board
  pub board : G.Board
  -- the connection that is logged in; 0 at first
  pub logged_in : ℕ
  -- how many connections there were: they are numbered from 1
  pub count : ℕ
  -- what happened, the oldest first
  pub log : List (Entry G)
  -- the wires of each connection; those of one that never was are empty
  pub links : ℕ → Link
  -- the commands that were handed out on each connection
  pub commands : ℕ → List (List ℕ)

module _ {G : Game} where
  -- the world at first
  abbrev pub start : G.Board → World G
  start b = record { board = b; logged_in = 0; count = 0; log = []; links = λ c. empty_link; commands = λ c. [] }

  -- the client's side of the newest connection, for the command that logs the user in
  abbrev pub talk_of : List ℕ → World G → Talk G
  talk_of login w =
      record { login = login; log = w.log; stream = (w.links w.count).heard; commands = w.commands w.count }

  -- Parts of events.

  -- entries are noted
  abbrev pub noted : World G → List (Entry G) → World G
  noted w entries = record w { log = w.log ++ entries }

  -- the wires of a connection become these
  abbrev pub linked : World G → ℕ → Link → World G
  linked w c l = record w { links = λ d. if nat_eq d c then l else w.links d }

  -- the connection that is logged in is open
  abbrev pub is_talking : World G → Bool
  is_talking w = nat_eq (open_now w.log) w.logged_in && not (nat_eq w.logged_in 0)

  -- the server sends a line with CR LF to the connection logged in; it is dropped if there is none, or it is lost
  abbrev pub sends : World G → List ℕ → World G
  sends w line =
      if is_talking w then linked w w.logged_in (more_coming (w.links w.logged_in) (on_wire line)) else w

  -- what the server's answer to a line of c changes: a login is answered by nothing, every later line by one board line
  abbrev pub does_served : ℕ → World G → Served G → World G
  does_served c w Stale = w
  does_served c w LoggedIn = noted (record w { logged_in = c }) (L.LoggedIn c ∷ [])
  does_served c w (Took d b) = sends (noted (record w { board = b }) (L.Took c w.board d ∷ [])) (G.spelling b)
  does_served c w (Undone d) = sends (noted w (L.Undone c w.board d ∷ [])) (G.spelling w.board)
  does_served c w Answered = sends w (G.spelling w.board)

  -- the server
  abbrev pub server_of : World G → ServerValue G
  server_of w = record { board = w.board; logged_in = w.logged_in }

  -- the line of c that it takes next, with the dice
  abbrev pub line_of : World G → ℕ → List ℕ → ℕ → ℕ → TakenLine
  line_of w c text d1 d2 =
      record { conn = c; first = is_empty (w.links c).served; text = text; die = d1; other_die = d2 }

  -- the server takes the next line of c, if there is one
  abbrev pub serves : ℕ → World G → ℕ → ℕ → Option (List ℕ × List ℕ) → World G
  serves c w d1 d2 None = w
  serves c w d1 d2 (Some p) =
      does_served c (linked w c (taken (w.links c) (on_wire p.0) p.1)) (answered (server_of w) (line_of w c p.0 d1 d2))

  -- of the newest connection this is so now, and the rest of the world as it was
  abbrev pub changed : World G → ℕ → List (Entry G) → Link → List (List ℕ) → World G
  changed w c log l texts = record w {
    count = c;
    log = log;
    links = λ d. if nat_eq d c then l else w.links d;
    commands = λ d. if nat_eq d c then texts else w.commands d;
  }

  -- the client made a step: its machine is the newest connection's, and what it hands out goes on the wire, each
  -- command with CR LF, after what the event does there
  abbrev pub client_does : World G → (Link → Link) → Outcome G → World G
  client_does w moves s =
      let c : ℕ = connections s.talk.log in
      changed w c s.talk.log (more_asked (moves (w.links c)) (wire_of s.send)) s.talk.commands

  -- What an event that is not refused does, one line for each: those of the client are a step of its machine. `login`
  -- is the command that logs the user in.
  abbrev pub after : List ℕ → World G → Event G → World G
  after login w Open = client_does w (λ l. l) (step (talk_of login w) M.Open)
  after login w (Click d) = client_does w (λ l. l) (step (talk_of login w) (M.Click d))
  after login w (Plain p) = client_does w (λ l. l) (step (talk_of login w) (M.PlainInput p))
  after login w (Deliver n) =
      client_does w (λ l. delivered l n) (step (talk_of login w) (M.Piece (take n (w.links w.count).coming)))
  after login w (Lose k) = client_does w (λ l. cut_off l k) (step (talk_of login w) M.Lose)
  after login w (Serve c d1 d2) = serves c w d1 d2 (next_line (w.links c).asked)
  after login w (Own b) = sends (record w { board = b }) (G.spelling b)
  after login w Repeat = sends w (G.spelling w.board)
  after login w (Text t) = sends w t
  after login w Order = client_does w (λ l. l) (step (talk_of login w) M.Order)
  after login w Withdraw = client_does w (λ l. l) (step (talk_of login w) M.Withdraw)
