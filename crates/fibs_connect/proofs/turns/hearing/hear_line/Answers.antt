use Rattle.std.proofs.Common.{refl, subst, ◌∷◌, []}
use Rattle.std.specs.Io.KnownBytes.{Appends}
use Rattle.fibs_session.specs.History.Machine.{wire_of}
use Rattle.fibs_session.specs.Calls.SessionOf.{texts_of, taken_of}
use Rattle.fibs_engine.specs.Writing.{Wrote, Whole, Broken}
use Rattle.fibs_connect.specs.Turns.Lines.{taken_act}
use Rattle.fibs_connect.specs.Turns.Script.{directory_told}
use Rattle.fibs_connect.proofs.TurnLemmas.Scripts.{did_act, did_part, did_untold}
use Rattle.fibs_connect.proofs.TurnLemmas.Faults.{at_stream, at_output}
use Rattle.fibs_connect.proofs.turns.hearing.hear_line.Goals as goal

pub returns-in_err-send_commands-clause-did : goal.returns-in_err-send_commands-clause-did
returns-in_err-send_commands-clause-did g c =
    let act = taken_act (taken_of c.args.taken.now) in
    at_stream g.F.Front.tells c.from_residual.result _ _ (λ Does far. Does (act ∷ [])) c.from_residual.ensures.1
    (did_part g.met.F.Front.joins _ _ act
    (subst (λ l. Wrote Broken (g.S.Write.contents c.args.stream.now) (g.S.Write.contents c.send_commands.new.stream)
    (wire_of (texts_of l))) c.as_slice.ensures.value c.in_err-send_commands.ensures.wrote) refl refl)

pub returns-clause-did : goal.returns-clause-did
returns-clause-did g c =
    let act = taken_act (taken_of c.args.taken.now) in
    let note = c.in_ok-note_taken.ensures in
    let joins = g.met.F.Front.joins in
    did_act joins _ _ act note.0
    (subst (λ l. Wrote Whole (g.S.Write.contents c.args.stream.now) (g.S.Write.contents c.send_commands.new.stream)
    (wire_of (texts_of l))) c.as_slice.ensures.value c.in_ok-send_commands.ensures.wrote)
    (joins.joined _ _ _ act.tells (directory_told note.0) c.in_ok-tell_taken.ensures note.1) note.2 note.3

pub returns-in_err-tell_taken-clause-did : goal.returns-in_err-tell_taken-clause-did
returns-in_err-tell_taken-clause-did g c =
    let act = taken_act (taken_of c.args.taken.now) in
    let wrote = g.S.Write.contents c.args.stream.now in
    let now = g.S.Write.contents c.send_commands.new.stream in
    at_output g.F.Front.tells c.from_residual-in_err-tell_taken.result _ _ (λ Does far. Does (act ∷ []))
    c.from_residual-in_err-tell_taken.ensures.1
    (did_untold wrote now act (subst (λ l. Appends wrote now (wire_of (texts_of l))) c.as_slice.ensures.value
    c.in_ok-send_commands.ensures.wrote))

pub returns-in_err-note_taken-clause-did : goal.returns-in_err-note_taken-clause-did
returns-in_err-note_taken-clause-did g c =
    let act = taken_act (taken_of c.args.taken.now) in
    let wrote = g.S.Write.contents c.args.stream.now in
    let now = g.S.Write.contents c.send_commands.new.stream in
    at_output g.F.Front.tells c.from_residual-in_err-note_taken.result _ _ (λ Does far. Does (act ∷ []))
    c.from_residual-in_err-note_taken.ensures.1
    (did_untold wrote now act (subst (λ l. Appends wrote now (wire_of (texts_of l))) c.as_slice.ensures.value
    c.in_ok-send_commands.ensures.wrote))
