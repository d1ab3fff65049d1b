use Rattle.fibs_session.proofs.History.Owing.{takes_from_entries}
use Rattle.fibs_session.proofs.histories.laws.pieces_take_from_the_entries_owed.Goals as goal

pub returns : goal.returns
returns c = takes_from_entries
