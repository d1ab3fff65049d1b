use Rattle.fibs_picture.proofs.PictureLemmas.Seen.{picture-seen}
use Rattle.fibs_picture.proofs.laws.picture_seen.Goals as goal

pub returns : goal.returns
returns c = picture-seen c.fields_have_their_ranges.ensures
