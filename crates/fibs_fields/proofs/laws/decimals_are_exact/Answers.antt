use Rattle.fibs_fields.proofs.NumberLemmas.UpToLimit.{up_to_exact}
use Rattle.fibs_fields.proofs.laws.decimals_are_exact.Goals as goal

pub returns : goal.returns
returns c = up_to_exact
