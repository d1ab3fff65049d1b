use Rattle.std.proofs.Common.{sym}
use Rattle.fibs_messages.proofs.LineLemmas.ReadingValues.{has_one_number, reads_any_number}
use Rattle.fibs_messages.proofs.line.message_number.Goals as goal

pub returns-clause-number : goal.returns-clause-number
returns-clause-number c =
    has_one_number c.args.line.now _ (sym c.number_of.ensures.value)

pub returns-clause-reading : goal.returns-clause-reading
returns-clause-reading c =
    reads_any_number c.args.line.now _ (sym c.number_of.ensures.value)
