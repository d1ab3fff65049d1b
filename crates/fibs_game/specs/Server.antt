-- The model server: what it answers to a line, by its board and by the number of the connection that is logged in.
use Rattle.std.specs.Prelude.{ℕ, Bool, not, List, Option, Some, None, if◌then◌else◌, nat_eq, nat_lt}
use Rattle.fibs_game.specs.Game.{Game}
use Rattle.fibs_game.specs.declared.world_refusal.WorldRefusal.{WorldRefusal}
use Rattle.fibs_game.specs.declared.world_refusal.WorldRefusal.TheVariants.{BadBoard, UserDecides}

-- why the board `now` may not become the board b by itself, the first that fits
abbrev pub own_refusal : (G : Game) → G.Board → G.Board → Option WorldRefusal
own_refusal G now b = if not (G.good b) then Some BadBoard else (if G.decides now then Some UserDecides else None)

-- a server: its board, and the connection that is logged in, or 0
pub record ServerValue (G : Game) : Type 0 where
  pub board : G.Board
  pub logged_in : ℕ

-- a line that it takes: its connection, whether it is the first line there, and the dice if it is a roll
pub record TakenLine : Type 0 where
  pub conn : ℕ
  pub first : Bool
  pub text : List ℕ
  pub die : ℕ
  pub other_die : ℕ

-- the server's answer to a line
pub data Served (G : Game) : Type 0 where
  -- the line is of a connection older than the one logged in, or a later line of one that isn't logged in
  Stale : Served G
  -- the line was a login
  LoggedIn : Served G
  -- the decision was carried out, and leads to this board
  Took : G.Decision → G.Board → Served G
  -- the decision changes nothing
  Undone : G.Decision → Served G
  -- the line is no decision
  Answered : Served G

module _ {G : Game} where
  -- a decision is carried out if it leads to a board
  abbrev pub carried : G.Decision → Option G.Board → Served G
  carried d None = Undone d
  carried d (Some b) = Took d b

  -- a later line of the connection that is logged in, by the decision that it says
  abbrev pub obeyed : G.Board → ℕ → ℕ → Option G.Decision → Served G
  obeyed now d1 d2 None = Answered
  obeyed now d1 d2 (Some d) = carried d (G.effect now d d1 d2)

  -- the first line of a connection is its login
  abbrev pub answered : ServerValue G → TakenLine → Served G
  answered s l =
      if l.first then (if nat_lt l.conn s.logged_in then Stale else LoggedIn)
      else (if nat_eq l.conn s.logged_in then obeyed s.board l.die l.other_die (G.decision_in s.board l.text)
      else Stale)
