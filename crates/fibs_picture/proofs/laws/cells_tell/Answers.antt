use Rattle.fibs_picture.proofs.PictureLemmas.Board.{cells-tell}
use Rattle.fibs_picture.proofs.laws.cells_tell.Goals as goal

pub returns : goal.returns
returns c = cells-tell c.fields_have_their_ranges.ensures
