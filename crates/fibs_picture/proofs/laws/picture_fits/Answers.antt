use Rattle.fibs_picture.proofs.PictureLemmas.Fits.{picture-fits}
use Rattle.fibs_picture.proofs.laws.picture_fits.Goals as goal

pub returns : goal.returns
returns c = picture-fits c.fields_have_their_ranges.ensures
