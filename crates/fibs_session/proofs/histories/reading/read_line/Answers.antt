use Rattle.std.proofs.Common.{refl}
use Rattle.fibs_session.proofs.histories.reading.read_line.Goals as goal

pub returns-then-line : goal.returns-then-line
returns-then-line c = rw c.if-line.true refl
