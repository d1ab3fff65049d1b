use Rattle.std.proofs.Common.{refl}
use Rattle.fibs_game.proofs.Sharing.{shared_is_false}
use Rattle.fibs_game.proofs.examples.Example.unlawful.Goals as goal

pub returns : goal.returns
returns c = record { which = refl; false_headline = shared_is_false }
