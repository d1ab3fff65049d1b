use Rattle.fibs_model.proofs.needles.Needles.{searched, searched_ends}
use Rattle.fibs_model.proofs.wire.whole_line.Goals as goal

pub returns-clause-line : goal.returns-clause-line
returns-clause-line c = searched c.args.bytes.now c.find.result c.find.ensures

pub returns-clause-ends : goal.returns-clause-ends
returns-clause-ends c = searched_ends c.args.bytes.now c.find.result c.find.ensures
