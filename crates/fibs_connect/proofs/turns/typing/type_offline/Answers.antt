use Rattle.std.proofs.KnownBytes.{Appends-nil}
use Rattle.fibs_connect.specs.SaidOf.{said_of}
use Rattle.fibs_session.specs.Typing.{typed_now}
use Rattle.fibs_engine.proofs.OkLemmas.{on_ok_weaker}
use Rattle.fibs_connect.proofs.TurnLemmas.Typed.{did_reply}
use Rattle.fibs_connect.proofs.turns.typing.type_offline.Goals as goal

pub returns-clause-did : goal.returns-clause-did
returns-clause-did g c =
    on_ok_weaker c.tell.result
    (λ h t at wrote players. did_reply g.met.F.Front.joins t (typed_now t c.args.text.now)
    (said_of c.in-Told.said) wrote _ _ players (c.in-Told.ensures.act t at)
    (Appends-nil wrote) h) c.tell.ensures
