use Rattle.std.specs.Prelude.{option_map, Some}
use Rattle.std.proofs.KnownBytes.{Appends-nil}
use Rattle.fibs_session.specs.Calls.SessionOf.{ask_of}
use Rattle.fibs_connect.specs.Told.{lost_said}
use Rattle.fibs_connect.specs.Turns.Acts.{only_tell}
use Rattle.fibs_connect.proofs.TurnLemmas.Scripts.{did_alone, notes_nothing}
use Rattle.fibs_connect.proofs.turns.loss.end_connection.Goals as goal

pub returns-clause-ended : goal.returns-clause-ended
returns-clause-ended g c = λ p t at wrote players. record {
  did = did_alone g.met.F.Front.joins _ _ (only_tell (lost_said (option_map ask_of c.lose-waited.result)))
      (Appends-nil wrote) c.in_ok-tell.ensures (notes_nothing (Some players));
  leaves = (c.lose-waited.ensures.does.stands t at, c.lose-waited.ensures.unconfirmed t at);
}

pub returns-clause-lost : goal.returns-clause-lost
returns-clause-lost g c = (
  c.lose-waited.result,
  λ t at. (c.lose-waited.ensures.does.stands t at, c.lose-waited.ensures.unconfirmed t at),
)

pub returns-in_err-tell-clause-lost : goal.returns-in_err-tell-clause-lost
returns-in_err-tell-clause-lost g c = (
  c.lose-waited.result,
  λ t at. (c.lose-waited.ensures.does.stands t at, c.lose-waited.ensures.unconfirmed t at),
)
