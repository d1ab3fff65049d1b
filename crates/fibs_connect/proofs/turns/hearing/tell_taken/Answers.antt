use Rattle.std.proofs.Common.{◌++◌, ◌∷◌, []}
use Rattle.std.specs.Prelude.{option_map}
use Rattle.fibs_lines.specs.Lines.{value_of}
use Rattle.fibs_messages.specs.Line.{reading_of}
use Rattle.fibs_session.specs.Calls.SessionOf.{ask_of}
use Rattle.fibs_connect.specs.Told.{heard_said}
use Rattle.fibs_connect.specs.Turns.Lines.{phase_told, confirmed_told, rolled_told}
use Rattle.fibs_engine.proofs.OkLemmas.{on_ok_weaker}
use Rattle.fibs_connect.proofs.turns.hearing.tell_taken.Goals.{in-Some+in_ok-tell-in-Some, in-None}
use Rattle.fibs_connect.proofs.turns.hearing.tell_taken.Goals as goal

-- no roll was sent
pub returns-then-not-taken : goal.returns-then-not-taken
returns-then-not-taken g c =
    let joins = g.met.F.Front.joins in
    let taken = c.args.taken.now in
    let heard = heard_said (value_of taken.line) (reading_of taken.reading) ∷ [] in
    let phase = phase_told (reading_of taken.reading) in
    let confirmed = confirmed_told (option_map ask_of taken.confirmed) in
    let confirms : g.F.Front.tells c.tell_game.new.front confirmed c.match-taken.front = elim c.match-taken.branch [
      | in-Some+in_ok-tell-in-Some w ↦ rw (w.front-is, w.in-Some.is) w.in_ok-tell-in-Some.ensures
      | in-None w ↦ rw (w.front-is, w.in-None.is) (joins.nothing _)
    ] in
    rw c.if-not-taken.true (joins.joined _ _ _ heard (phase ++ (confirmed ++ [])) c.in_ok-tell.ensures
    (joins.joined _ _ _ phase (confirmed ++ []) c.in_ok-tell_game.ensures
    (joins.joined _ _ _ confirmed [] confirms (joins.nothing _))))

-- a roll was sent
pub returns : goal.returns
returns g c =
    let joins = g.met.F.Front.joins in
    let taken = c.args.taken.now in
    let heard = heard_said (value_of taken.line) (reading_of taken.reading) ∷ [] in
    let phase = phase_told (reading_of taken.reading) in
    let confirmed = confirmed_told (option_map ask_of taken.confirmed) in
    let confirms : g.F.Front.tells c.tell_game.new.front confirmed c.match-taken.front = elim c.match-taken.branch [
      | in-Some+in_ok-tell-in-Some w ↦ rw (w.front-is, w.in-Some.is) w.in_ok-tell-in-Some.ensures
      | in-None w ↦ rw (w.front-is, w.in-None.is) (joins.nothing _)
    ] in
    let rolled = rolled_told taken.rolled in
    on_ok_weaker c.tell-2.result
    (λ last. joins.joined _ _ _ heard (phase ++ (confirmed ++ rolled)) c.in_ok-tell.ensures
    (joins.joined _ _ _ phase (confirmed ++ rolled) c.in_ok-tell_game.ensures
    (joins.joined _ _ _ confirmed rolled confirms (rw c.if-not-taken.false last)))) c.tell-2.ensures
