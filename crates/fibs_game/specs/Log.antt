-- What is noted as it happens, by a client and by the model server (the project's own). Connections count from 1.
use Rattle.std.specs.Prelude.{ℕ, Option}
use Rattle.fibs_game.specs.Game.{Game, Flags}
use Rattle.fibs_game.specs.declared.refusal.Refusal.{Refusal}

-- an entry of the log; its first part is the connection
pub data Entry (G : Game) : Type 0 where
  Opened : ℕ → Entry G  -- the client opened it
  LoggedIn : ℕ → Entry G  -- the server served its login
  Welcomed : ℕ → Entry G  -- the client was welcomed
  Informed : ℕ → Flags → Entry G  -- it read what the server plays by itself
  Shown : ℕ → G.Board → Entry G  -- it read a board that has a position
  -- the user decided; no refusal means yes. Offline the connection is 0
  Clicked : ℕ → G.Decision → Option Refusal → Entry G
  -- the decision, on the board shown: directly after a click with a yes; or a roll, directly after a board at which a
  -- standing order is due
  Sent : ℕ → G.Board → G.Decision → Entry G
  Took : ℕ → G.Board → G.Decision → Entry G  -- the server carried a decision out, on its board
  Undone : ℕ → G.Board → G.Decision → Entry G  -- it served a decision that changed nothing
  Lost : ℕ → Option (G.Board × G.Decision) → Entry G  -- the connection ended, with what was unconfirmed
  Ordered : ℕ → Entry G  -- the user gave a standing order to roll
  Withdrawn : ℕ → Entry G  -- he withdrew it
