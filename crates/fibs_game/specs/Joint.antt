-- The joint statement of server, wires and client: the four facts on which the headline rests. Each speaks of every
-- connection, after every list of events.
use Rattle.std.specs.Prelude.{◌≡◌, ◌⊎◌, ℕ, ◌<◌, ◌≤◌, Bool, true, false, List, [], ◌∷◌, ◌++◌, Option, Some, None, nat_eq, flat_map, map}
use Rattle.fibs_game.specs.Game.{Game}
use Rattle.fibs_game.specs.Log.{Entry, Took, Undone}
use Rattle.fibs_game.specs.Words.{Ask, one_if, open_now, sent, shown}
use Rattle.fibs_game.specs.Acts.{Act, Shows, Says, Serves, put_by}
use Rattle.fibs_game.specs.Wires.{Link, next_line}
use Rattle.fibs_game.specs.World.{World}

-- the bytes put on a wire to the client: those delivered, those still on it, those dropped at a loss
pub record Carried (put : List ℕ) (is_open : Bool) (link : Link) : Type 0 where
  pub dropped : List ℕ
  -- they are all bytes that were put on it, in their order
  pub all : put ≡ link.heard ++ (link.coming ++ dropped)
  -- nothing is dropped while the connection is open
  pub none_dropped : is_open ≡ true → dropped ≡ []
  -- and nothing is on the wire while it is not
  pub none_coming : is_open ≡ false → link.coming ≡ []

-- the lines that a server takes from bytes, one after another; after them there is no whole line
abbrev pub AreLines : List ℕ → List (List ℕ) → Type 0
AreLines bytes [] = next_line bytes ≡ None
AreLines bytes (line ∷ later) = (rest : List ℕ) × (next_line bytes ≡ Some (line, rest)) × AreLines rest later

-- one, or none
abbrev pub at_most_one : {A : Type 0} → Option A → List A
at_most_one None = []
at_most_one (Some a) = a ∷ []

-- the decisions without their boards
abbrev pub decisions_of : (G : Game) → List (Ask G) → List G.Decision
decisions_of G asks = map (λ (a : Ask G). a.1) asks

-- none of the lines is a decision on the board
abbrev pub NoDecision : (G : Game) → G.Board → List (List ℕ) → Type 0
NoDecision G b [] = Unit {0}
NoDecision G b (line ∷ later) = (G.decision_in b line ≡ None) × NoDecision G b later

-- just one of the lines is a decision on the board: the command of this one
pub record OneDecision (G : Game) (b : G.Board) (d : G.Decision) (lines : List (List ℕ)) : Type 0 where
  pub before : List (List ℕ)
  pub later : List (List ℕ)
  pub all : lines ≡ before ++ G.command b d ∷ later
  pub none_before : NoDecision G b before
  pub none_later : NoDecision G b later

-- Of the lines at most one is a decision on the server's board: the one that is not served, and that board is the one
-- on which it was sent. While the connection is open it is there; at a loss it may have been lost too.
abbrev pub AtMostThis : (G : Game) → Bool → G.Board → Option (Ask G) → List (List ℕ) → Type 0
AtMostThis G is_open now None lines = NoDecision G now lines
AtMostThis G is_open now (Some a) lines =
    (a.0 ≡ now) × (OneDecision G now a.1 lines ⊎ ((is_open ≡ false) × NoDecision G now lines))

module _ {G : Game} where
  -- each board among the acts is b, until a decision is served
  abbrev pub SameUntilServed : G.Board → List (Act G) → Type 0
  SameUntilServed b [] = Unit {0}
  SameUntilServed b (Shows now ∷ later) = (now ≡ b) × SameUntilServed b later
  SameUntilServed b (Says t ∷ later) = SameUntilServed b later
  SameUntilServed b (Serves d ∷ later) = Unit {0}

  -- after each board in which the user decides
  abbrev pub Steady : List (Act G) → Type 0
  Steady [] = Unit {0}
  Steady (Shows b ∷ later) = (G.decides b ≡ true → SameUntilServed b later) × Steady later
  Steady (Says t ∷ later) = Steady later
  Steady (Serves d ∷ later) = Steady later

  -- the decisions of a connection that the log says were served, with their boards
  abbrev pub served_by : ℕ → Entry G → List (Ask G)
  served_by c (Took d b m) = one_if (nat_eq d c) (b, m)
  served_by c (Undone d b m) = one_if (nat_eq d c) (b, m)
  served_by c e = []

  -- the decisions of a connection that were served, with the boards on which they were
  abbrev pub served : ℕ → List (Entry G) → List (Ask G)
  served c log = flat_map (served_by c) log

  -- the decisions that acts serve
  abbrev pub served_at : Act G → List G.Decision
  served_at (Shows b) = []
  served_at (Says t) = []
  served_at (Serves d) = d ∷ []

  -- what is left on the wire of a connection to the server
  pub record Left (c : ℕ) (unserved : Option (Ask G)) (w : World G) : Type 0 where
    pub lines : List (List ℕ)
    pub are_lines : AreLines (w.links c).asked lines
    pub at_most_this : AtMostThis G (nat_eq (open_now w.log) c) w.board unserved lines

  -- at most the last of what was sent on a connection was not served
  pub record LastUnserved (c : ℕ) (acts : List (Act G)) (w : World G) : Type 0 where
    pub unserved : Option (Ask G)
    pub all : sent c w.log ≡ served c w.log ++ at_most_one unserved
    -- what the server's acts serve there is what the log says was served there
    pub serves : flat_map served_at acts ≡ decisions_of G (served c w.log)
    -- and if the connection may still be served, the one that was not is the only decision left on its wire
    pub left : 0 < c → w.logged_in ≤ c → Left c unserved w

  -- the four facts about the server's acts on each connection, and about the world after them
  pub record Joint (acts : ℕ → List (Act G)) (w : World G) : Type 0 where
    -- On each connection the bytes put on the wire to the client are those delivered, then those still on it or dropped
    -- at a loss, cut anywhere.
    pub carried : (c : ℕ) → 0 < c → Carried (put_by (acts c)) (nat_eq (open_now w.log) c) (w.links c)
    -- After a board in which the user decides was sent on a connection, each later board sent there equals it until a
    -- decision of that connection is served.
    pub steady : (c : ℕ) → Steady (acts c)
    -- At most one decision of a connection, the last that was sent there, is not served yet, and of the lines on their
    -- way to the server at most one is a decision: that one, on the server's board.
    pub last_unserved : (c : ℕ) → LastUnserved c (acts c) w
    -- A connection newer than the one logged in has no board shown.
    pub newer_unshown : (c : ℕ) → w.logged_in < c → shown c w.log ≡ []
