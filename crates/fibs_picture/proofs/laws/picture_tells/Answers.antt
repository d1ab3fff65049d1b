use Rattle.fibs_picture.proofs.PictureLemmas.Tells.{picture-tells}
use Rattle.fibs_picture.proofs.laws.picture_tells.Goals as goal

pub returns : goal.returns
returns c = picture-tells c.fields_have_their_ranges.ensures
