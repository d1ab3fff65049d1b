use Rattle.std.proofs.Common.{◌∙◌, ap}
use Rattle.fibs_lines.specs.Lines.{value_of}
use Rattle.fibs_position.specs.GamePart.{same_game}
use Rattle.fibs_session.specs.History.Words.{IsLikeness}
use Rattle.fibs_session.specs.Calls.FieldSteps.{line_fields}
use Rattle.fibs_session.specs.Calls.SessionOf.{session_of}
use Rattle.fibs_session.proofs.Calls.SessionLaws.{line_hears}
use Rattle.fibs_session.proofs.session.Session.line.Goals as goal

pub returns-clause-hears : goal.returns-clause-hears
returns-clause-hears c =
    let s = c.same_game_is_a_likeness.ensures in
    let likeness : IsLikeness same_game = record { like_itself = s.itself; like_back = s.back; like_on = s.on } in
    let v = session_of c.args.self.now in
    let same = c.read_line-reading.ensures in
    line_hears likeness v (value_of c.args.line.now) _ _ _ _
    (c.note_line-reply.ensures.fields ∙ ap (λ r. (line_fields v r).session) same)
    (c.note_line-reply.ensures.send ∙ ap (λ r. (line_fields v r).send) same)
    (c.note_line-reply.ensures.confirmed ∙ ap (λ r. (line_fields v r).confirmed) same)
    (c.note_line-reply.ensures.rolled ∙ ap (λ r. (line_fields v r).rolled) same)
