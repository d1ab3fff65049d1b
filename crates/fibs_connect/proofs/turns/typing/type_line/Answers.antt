use Rattle.std.proofs.Common.{◌∷◌, [], sym, subst, append-nil}
use Rattle.std.specs.Io.KnownBytes.{Appends}
use Rattle.std.proofs.KnownBytes.{Appends-nil}
use Rattle.fibs_commands.specs.TextOf.{text_of}
use Rattle.fibs_connect.specs.Turns.Acts.{Act}
use Rattle.fibs_session.specs.History.Machine.{Talk, on_wire}
use Rattle.fibs_session.specs.Calls.Standing.{StandsAfter}
use Rattle.fibs_connect.specs.SaidOf.{said_of}
use Rattle.fibs_connect.specs.Turns.Typing.{typed_act}
use Rattle.fibs_session.specs.Typing.{typed_now}
use Rattle.fibs_connect.proofs.TurnLemmas.Typed.{did_reply, did_sent, did_unsent}
use Rattle.fibs_connect.proofs.TurnLemmas.Scripts.{did_untold}
use Rattle.fibs_connect.proofs.TurnLemmas.Faults.{at_stream, at_output}
use Rattle.fibs_connect.proofs.turns.typing.type_line.Goals as goal

pub returns-in_ok-tell-in-Told-clause-did : goal.returns-in_ok-tell-in-Told-clause-did
returns-in_ok-tell-in-Told-clause-did g c = λ players t at.
    did_reply g.met.F.Front.joins t (typed_now t c.args.text.now) (said_of c.in-Told.said) _ _ _ players
    (c.in-Told.ensures.act t at) (Appends-nil _) c.in_ok-tell-in-Told.ensures

pub returns-in_err-send_command-in-Sent-clause-did : goal.returns-in_err-send_command-in-Sent-clause-did
returns-in_err-send_command-in-Sent-clause-did g c = λ players.
    at_stream g.F.Front.tells c.from_residual-in_err-send_command-in-Sent.result _ _
    (λ Does far. (t : Talk) → StandsAfter c.args.client.now t → Does (typed_act t (typed_now t c.args.text.now) ∷ []))
    c.from_residual-in_err-send_command-in-Sent.ensures.1
    (λ t at. did_unsent g.met.F.Front.joins t (typed_now t c.args.text.now)
    (text_of c.in-Sent.command) _ _ _ players
    (c.in-Sent.ensures.act t at)
    c.in_err-send_command-in-Sent.ensures.wrote)

pub returns-in_err-tell-in-Told-clause-did : goal.returns-in_err-tell-in-Told-clause-did
returns-in_err-tell-in-Told-clause-did g c = λ players.
    let wrote = g.S.Write.contents c.args.stream.now in
    at_output g.F.Front.tells c.from_residual.result _ _
    (λ Does far. (t : Talk) → StandsAfter c.args.client.now t → Does (typed_act t (typed_now t c.args.text.now) ∷ []))
    c.from_residual.ensures.1
    (λ t at. did_untold wrote wrote _
    (subst (λ (a : Act). Appends wrote wrote a.writes) (c.in-Told.ensures.act t at) (Appends-nil wrote)))

pub returns-in_err-tell-in-Sent-clause-did : goal.returns-in_err-tell-in-Sent-clause-did
returns-in_err-tell-in-Sent-clause-did g c = λ players.
    let wrote = g.S.Write.contents c.args.stream.now in
    let now = g.S.Write.contents c.send_command.new.stream in
    let line = on_wire (text_of c.in-Sent.command) in
    at_output g.F.Front.tells c.from_residual-in_err-tell-in-Sent.result _ _
    (λ Does far. (t : Talk) → StandsAfter c.args.client.now t → Does (typed_act t (typed_now t c.args.text.now) ∷ []))
    c.from_residual-in_err-tell-in-Sent.ensures.1
    (λ t at. did_untold wrote now _ (subst (λ (a : Act). Appends wrote now a.writes) (c.in-Sent.ensures.act t at)
    (subst (Appends wrote now) (sym (append-nil line)) c.in_ok-send_command-in-Sent.ensures.wrote)))

pub returns-in_ok-tell-in-Sent-clause-did : goal.returns-in_ok-tell-in-Sent-clause-did
returns-in_ok-tell-in-Sent-clause-did g c = λ players t at.
    did_sent g.met.F.Front.joins t (typed_now t c.args.text.now) (text_of c.in-Sent.command) _ _ _ _ players
    (c.in-Sent.ensures.act t at) c.in_ok-send_command-in-Sent.ensures.wrote c.in_ok-tell-in-Sent.ensures
