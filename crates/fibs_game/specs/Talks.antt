-- The client's side of the world: what every world keeps, and which of a client's inputs an event is.
use Rattle.std.specs.Prelude.{◌⊎◌, ◌≡◌, ◌<◌, ℕ, [], Option, Some, None, take}
use Rattle.fibs_game.specs.Game.{Game}
use Rattle.fibs_game.specs.Words.{open_now, connections}
use Rattle.fibs_game.specs.Machine.{InputValue}
use Rattle.fibs_game.specs.Machine as M
use Rattle.fibs_game.specs.Events.{Event, Open, Click, Plain, Deliver, Lose, Serve, Own, Repeat, Text, Order, Withdraw}
use Rattle.fibs_game.specs.World.{World}

-- what every world keeps: the open connection is the newest, and of later ones there is nothing
pub record IsWorld {G : Game} (w : World G) : Type 0 where
  pub counted : connections w.log ≡ w.count
  pub newest : (open_now w.log ≡ 0) ⊎ (open_now w.log ≡ w.count)
  pub unheard : (c : ℕ) → w.count < c → (w.links c).heard ≡ []
  pub unsaid : (c : ℕ) → w.count < c → w.commands c ≡ []

-- the client's input that an event is
abbrev pub input_of : {G : Game} → World G → Event G → Option (InputValue G)
input_of w Open = Some M.Open
input_of w (Click d) = Some (M.Click d)
input_of w (Plain p) = Some (M.PlainInput p)
input_of w (Deliver n) = Some (M.Piece (take n (w.links w.count).coming))
input_of w (Lose k) = Some M.Lose
input_of w (Serve c d1 d2) = None
input_of w (Own b) = None
input_of w Repeat = None
input_of w (Text t) = None
input_of w Order = Some M.Order
input_of w Withdraw = Some M.Withdraw
