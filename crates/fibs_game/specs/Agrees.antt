-- Client and server agree on the board: what is shown on each connection, beside what the server sent there, and beside
-- the server's own board (the project's own).
use Rattle.std.specs.Prelude.{◌≡◌, ℕ, ◌<◌, List, [], ◌∷◌, ◌++◌, Some, flat_map}
use Rattle.fibs_game.specs.Game.{Game}
use Rattle.fibs_game.specs.Words.{last, open_now, shown}
use Rattle.fibs_game.specs.Acts.{Act, Shows, Says, Serves}
use Rattle.fibs_game.specs.Headline.{IsAtRest}
use Rattle.fibs_game.specs.World.{World}

module _ {G : Game} where
  -- the board that an act sends, if it sends one
  abbrev pub board_sent : Act G → List G.Board
  board_sent (Shows b) = b ∷ []
  board_sent (Says t) = []
  board_sent (Serves d) = []

  -- the boards that acts send, in their order
  abbrev pub boards_sent : List (Act G) → List G.Board
  boards_sent acts = flat_map board_sent acts

  -- the boards that the server's acts sent on each connection, beside the world after these acts
  pub record BoardsAgree (acts : ℕ → List (Act G)) (w : World G) : Type 0 where
    -- the boards shown on a connection are the first of those that the server sent there, in their order
    pub first_sent : (c : ℕ) → 0 < c → (rest : List G.Board) × (shown c w.log ++ rest ≡ boards_sent (acts c))
    -- while the connection that is logged in is open, the last board sent there is the server's
    pub newest : 0 < w.logged_in → open_now w.log ≡ w.logged_in → (b : G.Board)
        → last (boards_sent (acts w.logged_in)) ≡ Some b → b ≡ w.board
    -- at rest all boards that were sent there are shown;
    pub all_shown : IsAtRest w → shown w.logged_in w.log ≡ boards_sent (acts w.logged_in)
    -- so the board shown last is the server's
    pub same : IsAtRest w → (b : G.Board) → last (shown w.logged_in w.log) ≡ Some b → b ≡ w.board

  -- at rest, if no board is shown on the connection that is logged in, the client handed out its login there alone
  abbrev pub OnlyLogin : List ℕ → World G → Type 0
  OnlyLogin login w = IsAtRest w → shown w.logged_in w.log ≡ [] → w.commands w.logged_in ≡ login ∷ []
