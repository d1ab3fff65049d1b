use Rattle.fibs_position.proofs.LawLemmas.CarriedOut.{allowed_is}
use Rattle.fibs_position.proofs.laws.allowed_is_exact.Goals as goal

pub returns : goal.returns
returns c = allowed_is c.fields_have_their_ranges.ensures
