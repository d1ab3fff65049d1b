use Rattle.std.proofs.Common.{◌∙◌, refl}
use Rattle.fibs_engine.specs.Writing.{Whole, Broken}
use Rattle.fibs_connect.specs.declared.turns.Ending.TheVariants.{Quiet, Lost}
use Rattle.fibs_connect.specs.Turns.Typing.{typed_step}
use Rattle.fibs_session.specs.Typing.{typed_now}
use Rattle.fibs_engine.proofs.OkLemmas.{if_ok_weaker}
use Rattle.std.proofs.lemmas.Result.{on_err_weaker}
use Rattle.fibs_connect.proofs.TurnLemmas.Scripts.{silent_joins, hushed}
use Rattle.fibs_connect.proofs.TurnLemmas.Typed.{typed_stays}
use Rattle.fibs_connect.proofs.TurnLemmas.Turns.{turned_typed, turned_broken, turned_here, still_open, never}
use Rattle.fibs_connect.proofs.TurnLemmas.Stops.{on_any_err, listened_ok, listened_err, lost_untold, stopped, stopped_typed}
use Rattle.fibs_connect.proofs.turns.talk.Goals as goal

pub returns-in-None-clause-turned : goal.returns-in-None-clause-turned
returns-in-None-clause-turned g c =
    rw c.in-None.is (listened_ok g.F.Front.tells c.listen.result _ _ _ _ _ _ c.listen.ensures.turned)

pub returns-in-None-clause-stopped : goal.returns-in-None-clause-stopped
returns-in-None-clause-stopped g c =
    rw c.in-None.is (listened_err g.F.Front.tells c.listen.result _ _ _ _ _ _ c.listen.ensures.turned)

pub returns-in-Ok-clause-turned : goal.returns-in-Ok-clause-turned
returns-in-Ok-clause-turned g c =
    rw c.in-Some.is (if_ok_weaker c.listen-in-Ok.result
    (λ e h t at on.
    let text = c.in-Some.text.now in
    let v = typed_now t text in
    turned_typed g.met.F.Front.joins e t _ text _ _ _ _ _ _ on c.type_line.ensures.apart
    (c.in-Ok.ensures.did c.args.directory.now t at)
    (h (typed_step t v).talk (c.type_line.ensures.stands t at)
    ((typed_stays t v).online ∙ on)))
    (listened_ok g.F.Front.tells c.listen-in-Ok.result _ _ _ _ _ _ c.listen-in-Ok.ensures.turned))

pub returns-in-Ok-clause-stopped : goal.returns-in-Ok-clause-stopped
returns-in-Ok-clause-stopped g c =
    rw c.in-Some.is (on_err_weaker c.listen-in-Ok.result
    (λ h t at on.
    let text = c.in-Some.text.now in
    let v = typed_now t text in
    stopped_typed t _ text _ _ _ _ _ _ on c.type_line.ensures.apart
    (hushed Whole _ _ _ (c.in-Ok.ensures.did c.args.directory.now t at))
    (h (typed_step t v).talk (c.type_line.ensures.stands t at) ((typed_stays t v).online ∙ on)))
    (listened_err g.F.Front.tells c.listen-in-Ok.result _ _ _ _ _ _ c.listen-in-Ok.ensures.turned))

pub returns-in-Err-Stream-clause-turned : goal.returns-in-Err-Stream-clause-turned
returns-in-Err-Stream-clause-turned g c =
    rw c.in-Some.is (if_ok_weaker c.end_connection.result
    (λ e h t at on.
    let text = c.in-Some.text.now in
    turned_broken g.met.F.Front.joins e t _ text _ _ _ _ _ on c.empty_piece_is_nothing.ensures c.type_line.ensures.apart
    ((rw c.in-Err-Stream.field-0-is at c.in-Err-Stream.ensures.did) c.args.directory.now t at)
    (h Broken (typed_step t (typed_now t text)).talk
    (c.type_line.ensures.stands t at) _ _)) c.end_connection.ensures.ended)

pub returns-in-Err-Stream-clause-stopped : goal.returns-in-Err-Stream-clause-stopped
returns-in-Err-Stream-clause-stopped g c =
    rw c.in-Some.is (on_any_err c.end_connection.result
    (λ t at on.
    let text = c.in-Some.text.now in
    let lost = c.end_connection.ensures.lost in
    let u = (typed_step t (typed_now t text)).talk in
    stopped (Lost lost.0) t _ _ _ _ _ _ (turned_broken silent_joins (Lost lost.0) t _ text _ _ _ _ _ on
    c.empty_piece_is_nothing.ensures c.type_line.ensures.apart
    (hushed Broken _ _ _ ((rw c.in-Err-Stream.field-0-is at c.in-Err-Stream.ensures.did) c.args.directory.now t at))
    (lost_untold Broken u _ lost.0 _ (lost.1 u (c.type_line.ensures.stands t at))))))

pub returns-in-Err-Output-clause-stopped : goal.returns-in-Err-Output-clause-stopped
returns-in-Err-Output-clause-stopped g c =
    λ t at on.
    let text = c.in-Some.text.now in
    rw c.in-Some.is (stopped Quiet t _ _ _ _ _ _ (turned_here silent_joins Whole Quiet t _ text _ _ _ _ _
    c.empty_piece_is_nothing.ensures c.type_line.ensures.apart refl (never on)
    ((rw c.in-Err-Output.field-0-is at c.in-Err-Output.ensures.did) c.args.directory.now t at)
    (still_open silent_joins (typed_step t (typed_now t text)).talk _ _ (c.type_line.ensures.stands t at))))
