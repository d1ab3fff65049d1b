use Rattle.fibs_terminal.proofs.DrawingLemmas.{drawings_tell}
use Rattle.fibs_terminal.proofs.drawing.laws.drawings_tell.Goals as goal

pub returns : goal.returns
returns c = drawings_tell c.picture_tells.ensures c.picture_seen.ensures
