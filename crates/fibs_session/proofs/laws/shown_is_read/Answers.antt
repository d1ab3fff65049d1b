use Rattle.fibs_session.proofs.TypedLemmas.{shown_is_read}
use Rattle.fibs_session.proofs.laws.shown_is_read.Goals as goal

pub returns : goal.returns
returns c = shown_is_read c.read_command_is_exact.ensures
