-- Two games, of which one is lawful; and what is false of the other.
use Rattle.std.specs.Prelude.{◌≡◌, ℕ, List, true}
use Rattle.fibs_game.specs.declared.examples.Example.{Example}
use Rattle.fibs_game.specs.declared.examples.Example.TheVariants.{Counter, SharedSpelling}
use Rattle.fibs_game.specs.Game.{Game}
use Rattle.fibs_game.specs.Counter.{counter, shared}
use Rattle.fibs_game.specs.Events.{Event}
use Rattle.fibs_game.specs.Headline.{Headline}
use Rattle.fibs_game.specs.Lawful.{IsQuiet}
use Rattle.fibs_game.specs.Runs.{MayBe, world_after}

-- the game of an example
abbrev pub game_of : Example → Game
game_of Counter = counter
game_of SharedSpelling = shared

-- there is a list of events, none of which is refused, after which the headline is false
pub record IsFalse (G : Game) : Type 0 where
  pub login : List ℕ
  pub first : G.Board
  pub events : List (Event G)
  pub quiet : IsQuiet G login
  pub good : G.good first ≡ true
  pub may_be : MayBe login first events
  pub not : Headline (world_after login first events) → ⊥
