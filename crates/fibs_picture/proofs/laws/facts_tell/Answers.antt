use Rattle.fibs_picture.proofs.PictureLemmas.Tells.{facts-tell}
use Rattle.fibs_picture.proofs.laws.facts_tell.Goals as goal

pub returns : goal.returns
returns c = facts-tell c.fields_have_their_ranges.ensures
