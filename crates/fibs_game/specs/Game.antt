-- What a client and a server have to know of a game and of its spelling: all else that they do is the same for every
-- game (the project's own).
use Rattle.std.specs.Prelude.{ℕ, Bool, List, Option}
use Rattle.fibs_game.specs.declared.refusal.Refusal.{Refusal}

-- what the server says that it plays by itself: moves, or the last moves of a game
pub record Flags : Type 0 where
  pub automove : Bool
  pub greedy : Bool

-- what a line says to a client: that it is welcome, what the server plays by itself, a board, or nothing
pub data Says (Board Info : Type 0) : Type 0 where
  welcomes : Says Board Info
  informs : Info → Says Board Info
  shows : Board → Says Board Info
  says_nothing : Says Board Info

-- a game of two that a server keeps, and how client and server spell it
pub record Game : Type 1 where
  -- The game: its boards as a user sees them, and his decisions.
  pub Board : Type 0
  pub Decision : Type 0
  pub like : Board → Board → Bool  -- both are of the same game: they differ in nothing that a decision changes
  pub good : Board → Bool  -- it has a position
  pub decides : Board → Bool  -- the user decides
  pub allows : Board → Decision → Option Refusal  -- why a decision is not legal, if it is not
  pub effect : Board → Decision → ℕ → ℕ → Option Board  -- the board to which it leads, with two dice
  pub is_die : ℕ → Bool
  -- The same as relations, which the theorem cites.
  pub Good : Board → Type 0
  pub Legal : Board → Decision → Type 0
  pub Differ : Board → Board → Type 0
  pub Leads : Board → Decision → ℕ → ℕ → Board → Type 0
  -- A standing order: the decision that it makes, and the boards on which it does.
  pub roll : Decision
  pub rolls : Board → Bool
  -- Its spelling. A stream of bytes has lines, and a line has a reading.
  pub Line : Type 0
  pub Reading : Type 0
  pub lines : List ℕ → List Line
  pub reading : Line → Reading
  pub Info : Type 0
  pub says : Reading → Says Board Info
  pub flags : Info → Flags
  pub style : List ℕ  -- the command that the first welcome of a connection calls for
  pub initial : Info → List (List ℕ)  -- the commands that the first information calls for
  pub spelling : Board → List ℕ  -- the line that says a board
  pub command : Board → Decision → List ℕ  -- the command that sends a decision
  pub decision_in : Board → List ℕ → Option Decision  -- the decision that a command sends
  -- The user's other commands, and why a client refuses one.
  pub Plain : Type 0
  pub Fault : Type 0
  pub plain : Plain → List ℕ
  pub turns_off : Plain → Option (Flags → Bool)  -- what has to be on, if it turns something off
  pub offline : Fault  -- no connection is open
  pub not_on : Fault  -- what it turns off is not on
  pub plain_fault : Plain → Option Fault  -- why it has no text, if it has none
