-- Lists of events, of backgammon.
use Rattle.fibs_game.specs.Runs as A
pub use Rattle.fibs_game.specs.Runs.{AllAccepted, after_all}
unfoldable pub use Rattle.fibs_game.specs.Runs.{MayBe, world_after}
