use Rattle.std.proofs.Common.{◌≡◌, ◌∙◌, false, refl, ap, sym}
use Rattle.fibs_lines.specs.Lines.{ReadLine, value_of}
use Rattle.fibs_messages.specs.Line.{reading_value}
use Rattle.fibs_position.specs.GamePart.{same_game}
use Rattle.fibs_session.specs.History.Hearing.{line_reading}
use Rattle.fibs_session.specs.History.Words.{IsLikeness}
use Rattle.fibs_session.specs.Calls.FieldSteps.{line_fields}
use Rattle.fibs_session.specs.Calls.SessionOf.{session_of}
use Rattle.fibs_session.proofs.Calls.SessionLaws.{line_hears}
use Rattle.fibs_session.proofs.client.heard_line.Answer.of.Goals as goal

-- the reading of a line that was not cut
whole_reading : (l : ReadLine) → l.cut ≡ false → line_reading l ≡ reading_value l.bytes
whole_reading l e = rw e refl

-- a line that says nothing to a session
pub returns-then-is_unheard-clause-hears : goal.returns-then-is_unheard-clause-hears
returns-then-is_unheard-clause-hears c =
    let s = c.same_game_is_a_likeness.ensures in
    let likeness : IsLikeness same_game = record { like_itself = s.itself; like_back = s.back; like_on = s.on } in
    let v = session_of c.args.session.now in
    let same = sym (c.is_unheard.ensures.says c.if-is_unheard.true v) in
    rw c.nothing.ensures.send (rw c.nothing.ensures.confirmed (rw c.nothing.ensures.rolled
    (line_hears likeness v (value_of c.args.line.now) v _ _ _
    (ap (λ h. h.session) same) (ap (λ h. h.send) same) (ap (λ h. h.confirmed) same) (ap (λ h. h.rolled) same))))

pub returns-clause-hears : goal.returns-clause-hears
returns-clause-hears c =
    let s = c.same_game_is_a_likeness.ensures in
    let likeness : IsLikeness same_game = record { like_itself = s.itself; like_back = s.back; like_on = s.on } in
    let v = session_of c.args.session.now in
    let l = value_of c.args.line.now in
    let same =
    c.read-reading.ensures.value ∙ sym (whole_reading l (c.is_unheard.ensures.whole c.if-is_unheard.false)) in
    line_hears likeness v (value_of c.args.line.now) _ _ _ _
    (c.note_line-send.ensures.fields ∙ ap (λ r. (line_fields v r).session) same)
    (c.note_line-send.ensures.send ∙ ap (λ r. (line_fields v r).send) same)
    (c.note_line-send.ensures.confirmed ∙ ap (λ r. (line_fields v r).confirmed) same)
    (c.note_line-send.ensures.rolled ∙ ap (λ r. (line_fields v r).rolled) same)

pub returns-clause-reading : goal.returns-clause-reading
returns-clause-reading c =
    let l = value_of c.args.line.now in
    let whole = whole_reading l (c.is_unheard.ensures.whole c.if-is_unheard.false) in
    c.of-reading.ensures l (whole ∙ sym c.read-reading.ensures.value)
