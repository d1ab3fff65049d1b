-- What a history of entries, the oldest first, says of a connection (the project's own). Each word is of the whole
-- list.
use Rattle.std.specs.Prelude.{ℕ, Bool, true, false, not, ◌&&◌, ◌||◌, List, [], ◌∷◌, length, Option, Some, None, if◌then◌else◌, nat_eq, flat_map}
use Rattle.fibs_game.specs.Game.{Game, Flags}
use Rattle.fibs_game.specs.declared.refusal.Refusal.{Refusal}
use Rattle.fibs_game.specs.declared.refusal.Refusal.TheVariants.{Offline, NotReady, ServerPlays, NoBoard, Waiting}
use Rattle.fibs_game.specs.Log.{Entry, Opened, Welcomed, Informed, Shown, Sent, Took, Lost, Ordered, Withdrawn}

-- a decision with the board that it is about
abbrev pub Ask : Game → Type 0
Ask G = G.Board × G.Decision

-- lists

-- a list of one, or the empty one
abbrev pub one_if : {A : Type 0} → Bool → A → List A
one_if true x = x ∷ []
one_if false x = []

-- no element
abbrev pub is_empty : {A : Type 0} → List A → Bool
is_empty [] = true
is_empty (x ∷ xs) = false

-- the last element
abbrev pub last : {A : Type 0} → List A → Option A
last [] = None
last (x ∷ []) = Some x
last (x ∷ y ∷ ys) = last (y ∷ ys)

-- the test holds of each element
abbrev pub each : {A : Type 0} → (A → Bool) → List A → Bool
each p [] = true
each p (x ∷ xs) = p x && each p xs

-- the last of them is an order that was given
abbrev pub is_given : Option Bool → Bool
is_given None = false
is_given (Some given) = given

-- the server plays: the flags have a 1
abbrev pub plays_itself : Option Flags → Bool
plays_itself None = false
plays_itself (Some f) = f.automove || f.greedy

-- the answer on the board shown last: no board, a stretch that is spent, what the board allows
abbrev pub if_board : (G : Game) → Bool → G.Decision → Option G.Board → Option Refusal
if_board G spent d None = Some NoBoard
if_board G spent d (Some b) = if spent then Some Waiting else G.allows b d

module _ {G : Game} where
  -- the connection that is open after more entries, if `o` was open before them
  abbrev pub open_from : ℕ → List (Entry G) → ℕ
  open_from o [] = o
  open_from o (Opened c ∷ later) = open_from c later
  open_from o (Lost c u ∷ later) = open_from 0 later
  open_from o (e ∷ later) = open_from o later

  -- the connection that is open: from its Opened to its Lost; 0 if none is open
  abbrev pub open_now : List (Entry G) → ℕ
  open_now log = open_from 0 log

  -- what was noted of a connection, in order

  -- the connection that an entry opens
  abbrev pub opened_by : Entry G → List ℕ
  opened_by (Opened c) = c ∷ []
  opened_by e = []

  -- the board that an entry shows on a connection
  abbrev pub shown_by : ℕ → Entry G → List G.Board
  shown_by c (Shown d b) = one_if (nat_eq d c) b
  shown_by c e = []

  -- the decision that an entry sends there
  abbrev pub sent_by : ℕ → Entry G → List (Ask G)
  sent_by c (Sent d b m) = one_if (nat_eq d c) (b, m)
  sent_by c e = []

  -- the decision that takes effect there
  abbrev pub took_by : ℕ → Entry G → List (Ask G)
  took_by c (Took d b m) = one_if (nat_eq d c) (b, m)
  took_by c e = []

  -- a welcome there
  abbrev pub welcomed_by : ℕ → Entry G → List ℕ
  welcomed_by c (Welcomed d) = one_if (nat_eq d c) d
  welcomed_by c e = []

  -- what the server plays by itself
  abbrev pub informed_by : ℕ → Entry G → List Flags
  informed_by c (Informed d f) = one_if (nat_eq d c) f
  informed_by c e = []

  -- whether a standing order was given or withdrawn
  abbrev pub orders_by : ℕ → Entry G → List Bool
  orders_by c (Ordered d) = one_if (nat_eq d c) true
  orders_by c (Withdrawn d) = one_if (nat_eq d c) false
  orders_by c e = []

  -- how many connections were opened: they are numbered from 1
  abbrev pub connections : List (Entry G) → ℕ
  connections log = length (flat_map opened_by log)

  -- the boards shown on a connection
  abbrev pub shown : ℕ → List (Entry G) → List G.Board
  shown c log = flat_map (shown_by c) log

  -- the decisions sent on a connection, with their boards
  abbrev pub sent : ℕ → List (Entry G) → List (Ask G)
  sent c log = flat_map (sent_by c) log

  -- the decisions that took effect on a connection, with their boards
  abbrev pub took : ℕ → List (Entry G) → List (Ask G)
  took c log = flat_map (took_by c) log

  -- the welcomes of a connection
  abbrev pub welcomed : ℕ → List (Entry G) → List ℕ
  welcomed c log = flat_map (welcomed_by c) log

  -- what was said on a connection of what the server plays by itself
  abbrev pub informed : ℕ → List (Entry G) → List Flags
  informed c log = flat_map (informed_by c) log

  -- the standing orders of a connection: given or withdrawn
  abbrev pub orders : ℕ → List (Entry G) → List Bool
  orders c log = flat_map (orders_by c) log

  -- a standing order is in force on the connection
  abbrev pub is_ordered : ℕ → List (Entry G) → Bool
  is_ordered c log = is_given (last (orders c log))

  -- A connection's stretch is its last block of boards shown one after another that are alike. Its first Shown is
  -- the first after which only boards like it are shown. The stretch is spent if something was sent after that.
  abbrev pub is_spent : ℕ → List (Entry G) → Bool
  is_spent c [] = false
  is_spent c (Shown d b ∷ later) =
      if nat_eq d c && each (G.like b) (shown c later) then not (is_empty (sent c later)) else is_spent c later
  is_spent c (e ∷ later) = is_spent c later

  -- what is unconfirmed: the last that was sent, if the stretch is spent
  abbrev pub unconfirmed : ℕ → List (Entry G) → Option (Ask G)
  unconfirmed c log = if is_spent c log then last (sent c log) else None

  -- the answer to a decision, by the history: the first refusal that fits; None means yes
  abbrev pub answer : List (Entry G) → G.Decision → Option Refusal
  answer log d =
      let c : ℕ = open_now log in
      if nat_eq c 0 then Some Offline
      else (if is_empty (welcomed c log) || is_empty (informed c log) then Some NotReady
      else (if plays_itself (last (informed c log)) then Some ServerPlays
      else (if_board G (is_spent c log) d (last (shown c log)))))
