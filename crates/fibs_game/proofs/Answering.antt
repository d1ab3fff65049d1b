-- What the server does at a line, by the parts of the line.
use Rattle.std.proofs.Common.{ℕ, Bool, List, Option}
use Rattle.fibs_game.specs.Server.{Served, answered, carried, obeyed}
use Rattle.fibs_game.specs.World.{World, does_served}
use Rattle.fibs_game.specs.Game.{Game}

module _ (G : Game) where
  -- its answer
  abbrev pub answered_at : G.Board → ℕ → ℕ → Bool → List ℕ → ℕ → ℕ → Served G
  answered_at now logged_in c first text d1 d2 =
      answered (record { board = now; logged_in = logged_in })
      (record { conn = c; first = first; text = text; die = d1; other_die = d2 })

  -- its answer
  abbrev pub takes_line : ℕ → World G → Bool → List ℕ → ℕ → ℕ → World G
  takes_line c w first text d1 d2 = does_served c w (answered_at w.board w.logged_in c first text d1 d2)

  -- the answer to a decision, by the board to which it leads
  abbrev pub carries_out : ℕ → World G → G.Decision → Option G.Board → World G
  carries_out c w d o = does_served c w (carried d o)

  -- the answer to a later line of the connection logged in, by the decision that it says
  abbrev pub obeys : ℕ → World G → ℕ → ℕ → Option G.Decision → World G
  obeys c w d1 d2 o = does_served c w (obeyed w.board d1 d2 o)
