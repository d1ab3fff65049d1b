use Rattle.fibs_position.proofs.LawLemmas.CarriedOut.{phase_is}
use Rattle.fibs_position.proofs.laws.phase_is_exact.Goals as goal

pub returns : goal.returns
returns c = phase_is c.fields_have_their_ranges.ensures
