use Rattle.std.proofs.Common.{refl}
use Rattle.fibs_session.proofs.Calls.ReadLaws.{read_does, read_keeps, feed_does, feed_answers}
use Rattle.fibs_session.proofs.client.Client.read.Goals as goal

pub returns-clause-does : goal.returns-clause-does
returns-clause-does c = read_does _ _ _ _ c.take_piece.ensures.reads

pub returns-clause-keeps : goal.returns-clause-keeps
returns-clause-keeps c = read_keeps _ _ _ _ c.take_piece.ensures.reads

pub returns-clause-answers : goal.returns-clause-answers
returns-clause-answers c = λ taken shows. feed_answers _ _ _ _ c.take_piece.ensures.reads _ refl taken shows

pub returns-clause-hands : goal.returns-clause-hands
returns-clause-hands c = λ taken shows. feed_does _ _ _ _ c.take_piece.ensures.reads _ refl taken shows
