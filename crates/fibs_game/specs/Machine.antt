-- The client as a machine over its inputs (the project's own): its history, the bytes of the open connection, and the
-- commands handed out on it.
use Rattle.std.specs.Prelude.{ℕ, suc, Bool, true, false, not, ◌&&◌, ◌||◌, List, [], ◌∷◌, ◌++◌, length, drop, Option, Some, None, if◌then◌else◌, nat_eq, flat_map}
use Rattle.std.specs.Str.{bytes_eq}
use Rattle.fibs_game.specs.declared.refusal.Refusal.{Refusal}
use Rattle.fibs_game.specs.declared.refusal.Refusal.TheVariants as R
use Rattle.fibs_game.specs.Game.{Game, Flags}
use Rattle.fibs_game.specs.Log.{Entry, Opened, Clicked, Sent, Lost, Ordered, Withdrawn}
use Rattle.fibs_game.specs.Words.{Ask, last, open_now, connections, shown, informed, unconfirmed, answer, is_ordered}
use Rattle.fibs_game.specs.Hearing.{Heard, heard, nothing_heard}

-- a client: its history, and what it has of the open connection
pub record Talk (G : Game) : Type 0 where
  pub login : List ℕ  -- the command that logs the user in
  pub log : List (Entry G)
  pub stream : List ℕ  -- the bytes of the open connection
  pub commands : List (List ℕ)  -- those handed out on it

-- a step's outcome: the machine after it, and the commands that it hands out
pub record Outcome (G : Game) : Type 0 where
  pub talk : Talk G
  pub send : List (List ℕ)

-- an input of a client: bytes of the server, a decision of the user, another command of the user, a standing order to
-- roll and its end
pub data InputValue (G : Game) : Type 0 where
  Open : InputValue G
  Lose : InputValue G
  Piece : List ℕ → InputValue G
  Click : G.Decision → InputValue G
  PlainInput : G.Plain → InputValue G
  Order : InputValue G
  Withdraw : InputValue G

-- the text is one of the commands
abbrev pub was_sent : List ℕ → List (List ℕ) → Bool
was_sent text [] = false
was_sent text (t ∷ ts) = bytes_eq text t || was_sent text ts

-- the flag is 1
abbrev pub flag_is_on : (Flags → Bool) → Option Flags → Bool
flag_is_on flag None = false
flag_is_on flag (Some f) = flag f

-- the lines that more bytes give
abbrev pub gained : (G : Game) → List ℕ → List ℕ → List G.Line
gained G before more = drop (length (G.lines before)) (G.lines (before ++ more))

-- a command as it is sent: with CR LF
abbrev pub on_wire : List ℕ → List ℕ
on_wire text = text ++ 13 ∷ 10 ∷ []

-- commands as they are sent, one after another
abbrev pub wire_of : List (List ℕ) → List ℕ
wire_of = flat_map on_wire

module _ {G : Game} where
  -- the machine at first
  abbrev pub start : List ℕ → Talk G
  start login = record { login = login; log = []; stream = []; commands = [] }

  -- the connection that is open; 0 if none is
  abbrev pub open_connection : Talk G → ℕ
  open_connection t = open_now t.log

  -- a connection is open
  abbrev pub is_online : Talk G → Bool
  is_online t = not (nat_eq (open_now t.log) 0)

  -- entries are noted, and commands handed out
  abbrev pub noted : Talk G → List (Entry G) → List (List ℕ) → Talk G
  noted t entries texts =
      record { login = t.login; log = t.log ++ entries; stream = t.stream; commands = t.commands ++ texts }

  -- entries are noted, and these commands are the outcome
  abbrev pub does : Talk G → List (Entry G) → List (List ℕ) → Outcome G
  does t entries texts = record { talk = noted t entries texts; send = texts }

  -- nothing happens
  abbrev pub stays : Talk G → Outcome G
  stays t = record { talk = t; send = [] }

  -- Open

  -- refused if a connection is open
  abbrev pub open_refusal : Talk G → Option Refusal
  open_refusal t = if is_online t then Some R.AlreadyOpen else None

  -- a new connection has no bytes, and its first command is the login
  abbrev pub opened : Talk G → Talk G
  opened t = record {
    login = t.login;
    log = t.log ++ Opened (suc (connections t.log)) ∷ [];
    stream = [];
    commands = t.login ∷ [];
  }

  -- it opens a connection, if none is open
  abbrev pub opens : Talk G → Outcome G
  opens t = if is_online t then stays t else record { talk = opened t; send = t.login ∷ [] }

  -- Lose

  -- what is unconfirmed on the open connection
  abbrev pub unconfirmed_now : Talk G → Option (Ask G)
  unconfirmed_now t = unconfirmed (open_now t.log) t.log

  -- it loses the connection, if one is open
  abbrev pub loses : Talk G → Outcome G
  loses t = if is_online t then does t (Lost (open_now t.log) (unconfirmed_now t) ∷ []) [] else stays t

  -- Piece

  -- what a line says now
  abbrev pub heard_by : Talk G → G.Line → Heard G
  heard_by t l = heard (open_now t.log) t.log (G.says (G.reading l))

  -- it does what a line says
  abbrev pub hears : Talk G → Heard G → Outcome G
  hears t h = does t h.entries h.send

  -- one step after another: what both hand out
  abbrev pub then_also : List (List ℕ) → Outcome G → Outcome G
  then_also texts later = record { talk = later.talk; send = texts ++ later.send }

  -- the lines are heard, one after another
  unfoldable pub hears_all : Talk G → List G.Line → Outcome G
  hears_all t [] = stays t
  hears_all t (l ∷ ls) =
      then_also (heard_by t l).send (hears_all (hears t (heard_by t l)).talk ls)

  -- more bytes have come
  abbrev pub with_bytes : Talk G → List ℕ → Talk G
  with_bytes t bytes = record { login = t.login; log = t.log; stream = t.stream ++ bytes; commands = t.commands }

  -- it reads a piece: it hears the lines that end in it, if a connection is open
  abbrev pub reads : Talk G → List ℕ → Outcome G
  reads t bytes = if is_online t then hears_all (with_bytes t bytes) (gained G t.stream bytes) else stays t

  -- what a whole line says; offline nothing
  abbrev pub line_heard : Talk G → G.Line → Heard G
  line_heard t l = if is_online t then heard_by t l else nothing_heard

  -- the last board shown on the open connection
  abbrev pub shown_now : Talk G → Option G.Board
  shown_now t = last (shown (open_now t.log) t.log)

  -- Click

  -- the answer to a click
  abbrev pub answer_now : Talk G → G.Decision → Option Refusal
  answer_now t d = answer t.log d

  -- the decision is sent, in the numbers of the board shown last
  abbrev pub decides_on : Talk G → G.Decision → Option G.Board → Outcome G
  decides_on t d None = stays t
  decides_on t d (Some b) =
      does t (Clicked (open_now t.log) d None ∷ Sent (open_now t.log) b d ∷ []) (G.command b d ∷ [])

  -- a click with the answer that it gets
  abbrev pub clicks_by : Talk G → G.Decision → Option Refusal → Outcome G
  clicks_by t d (Some why) = does t (Clicked (open_now t.log) d (Some why) ∷ []) []
  clicks_by t d None = decides_on t d (last (shown (open_now t.log) t.log))

  -- a click is noted with its answer, and sent if that is yes
  abbrev pub clicks : Talk G → G.Decision → Outcome G
  clicks t d = clicks_by t d (answer_now t d)

  -- Plain

  -- the server said last that it is on, and the command was not sent on this connection
  abbrev pub is_on : Talk G → (Flags → Bool) → G.Plain → Bool
  is_on t flag p = flag_is_on flag (last (informed (open_now t.log) t.log)) && not (was_sent (G.plain p) t.commands)

  -- what it turns off has to be on
  abbrev pub may_send_if : Talk G → G.Plain → Option (Flags → Bool) → Bool
  may_send_if t p None = true
  may_send_if t p (Some flag) = is_on t flag p

  -- it is sent only if what it turns off, if anything, is on
  abbrev pub may_send : Talk G → G.Plain → Bool
  may_send t p = may_send_if t p (G.turns_off p)

  -- the first refusal that fits; None means yes
  abbrev pub plain_refusal : Talk G → G.Plain → Option G.Fault
  plain_refusal t p =
      if not (is_online t) then Some G.offline
      else (if not (may_send t p) then Some G.not_on
      else G.plain_fault p)

  -- a plain command is sent, if it is not refused
  abbrev pub sends_plain : Talk G → G.Plain → Option G.Fault → Outcome G
  sends_plain t p (Some why) = stays t
  sends_plain t p None = does t [] (G.plain p ∷ [])

  -- a plain command
  abbrev pub plains : Talk G → G.Plain → Outcome G
  plains t p = sends_plain t p (plain_refusal t p)

  -- Order and Withdraw

  -- a standing order is in force on the open connection
  abbrev pub ordered_now : Talk G → Bool
  ordered_now t = is_ordered (open_now t.log) t.log

  -- refused offline, and if an order is in force already
  abbrev pub order_refusal : List (Entry G) → Option Refusal
  order_refusal log =
      if nat_eq (open_now log) 0 then Some R.Offline
      else (if is_ordered (open_now log) log then Some R.AlreadyOrdered else None)

  -- refused offline, and if no order is in force
  abbrev pub withdraw_refusal : List (Entry G) → Option Refusal
  withdraw_refusal log =
      if nat_eq (open_now log) 0 then Some R.Offline
      else (if is_ordered (open_now log) log then None else Some R.NotOrdered)

  -- an entry is noted if nothing refuses it
  abbrev pub notes_if : Talk G → Entry G → Option Refusal → Outcome G
  notes_if t e (Some why) = stays t
  notes_if t e None = does t (e ∷ []) []

  -- an order is given
  abbrev pub orders_on : Talk G → Outcome G
  orders_on t = notes_if t (Ordered (open_now t.log)) (order_refusal t.log)

  -- an order is withdrawn
  abbrev pub withdraws : Talk G → Outcome G
  withdraws t = notes_if t (Withdrawn (open_now t.log)) (withdraw_refusal t.log)

  -- what an input does
  abbrev pub step : Talk G → InputValue G → Outcome G
  step t Open = opens t
  step t Lose = loses t
  step t (Piece bytes) = reads t bytes
  step t (Click d) = clicks t d
  step t (PlainInput p) = plains t p
  step t Order = orders_on t
  step t Withdraw = withdraws t

  -- what a list of inputs does
  unfoldable pub run : Talk G → List (InputValue G) → Outcome G
  run t [] = stays t
  run t (i ∷ is) = then_also (step t i).send (run (step t i).talk is)

-- the bytes that a client hands out
abbrev pub Out : {G : Game} → List ℕ → List (InputValue G) → List ℕ
Out login inputs = wire_of (run (start login) inputs).send
