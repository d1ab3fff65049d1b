use Rattle.fibs_terminal.proofs.DrawingLemmas.{drawings_fit}
use Rattle.fibs_terminal.proofs.drawing.laws.drawings_fit.Goals as goal

pub returns : goal.returns
returns c = drawings_fit c.picture_fits.ensures c.picture_seen.ensures
