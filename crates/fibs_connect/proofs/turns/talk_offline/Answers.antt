use Rattle.std.proofs.Common.{None}
use Rattle.fibs_connect.proofs.TurnLemmas.Turns.{turned_nothing, turned_offline}
use Rattle.fibs_connect.proofs.TurnLemmas.Scripts.{silent_joins, did_untold}
use Rattle.fibs_connect.proofs.TurnLemmas.Stops.{on_any_err, stopped}
use Rattle.fibs_connect.specs.Turns.Typing.{typed_act}
use Rattle.fibs_session.specs.Typing.{typed_now}
use Rattle.fibs_connect.specs.declared.turns.Ending.TheVariants.{Quiet}
use Rattle.fibs_connect.proofs.turns.talk_offline.Goals as goal

pub returns-in-None-clause-turned : goal.returns-in-None-clause-turned
returns-in-None-clause-turned g c = λ t at off players. rw c.in-None.is
    (turned_nothing g.met.F.Front.joins t _ _ c.empty_piece_is_nothing.ensures at)

pub returns-in_ok-type_offline-in-Some-clause-turned : goal.returns-in_ok-type_offline-in-Some-clause-turned
returns-in_ok-type_offline-in-Some-clause-turned g c = λ t at off players.
    rw c.in-Some.is (turned_offline g.met.F.Front.joins t _ c.in-Some.text.now _ _ c.empty_piece_is_nothing.ensures
    (c.type_offline.ensures.stands t at)
    (c.in_ok-type_offline-in-Some.ensures.did t at None players))

pub returns-in_err-type_offline-in-Some-clause-stopped : goal.returns-in_err-type_offline-in-Some-clause-stopped
returns-in_err-type_offline-in-Some-clause-stopped g c =
    on_any_err c.from_residual.result
    (λ t at off.
    let act = typed_act t (typed_now t c.in-Some.text.now) in
    rw c.in-Some.is (stopped Quiet t _ _ _ _ _ _ (turned_offline silent_joins t _ c.in-Some.text.now _ _
    c.empty_piece_is_nothing.ensures (c.type_offline.ensures.stands t at) (did_untold None None act tt))))
