use Rattle.fibs_position.proofs.LawLemmas.CarriedOut.{allowed_users}
use Rattle.fibs_position.proofs.laws.allowed_is_the_users.Goals as goal

pub returns : goal.returns
returns c = allowed_users c.fields_have_their_ranges.ensures
