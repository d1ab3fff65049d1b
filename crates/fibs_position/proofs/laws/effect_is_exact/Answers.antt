use Rattle.fibs_position.proofs.LawLemmas.CarriedOut.{effect_is}
use Rattle.fibs_position.proofs.laws.effect_is_exact.Goals as goal

pub returns : goal.returns
returns c = effect_is c.is_board_is_exact.ensures
