use Rattle.std.proofs.Common.{◌++◌, ◌<◌, ◌≤◌, ℕ, List, [], ◌∷◌, length, take, drop, Some, arith, length-take, refl, sym, ap, subst, ◌∙◌}
use Rattle.std.proofs.lemmas.List.{take_rest}
use Rattle.std.proofs.KnownBytes.{Keeps-refl, Keeps-trans}
use Rattle.std.specs.Prelude.{option_map}
use Rattle.std.specs.Io.KnownBytes.{Keeps}
use Rattle.fibs_session.specs.History.Machine.{Talk, Piece, step}
use Rattle.fibs_session.specs.Calls.Standing.{StandsAfter}
use Rattle.fibs_session.specs.Calls.Feeding.{FeedAnswers, Shows}
use Rattle.fibs_session.specs.Calls.SessionOf.{taken_of}
use Rattle.fibs_connect.specs.Turns.Lines.{taken_act}
use Rattle.fibs_connect.specs.Turns.Turn.{Talked}
use Rattle.fibs_connect.specs.Turns.Script.{Did, outside}
use Rattle.fibs_engine.specs.Writing.{Whole}
use Rattle.fibs_engine.proofs.WriteLemmas.{front_more}
use Rattle.fibs_connect.proofs.TurnLemmas.Scripts.{did_nothing}
use Rattle.fibs_connect.proofs.TurnLemmas.Hearing.{taken_acts, acts_taken, taken_online, ends_taken, piece_online}
use Rattle.fibs_connect.proofs.TurnLemmas.Turns.{gone_nothing, gone_more, broke_at}
use Rattle.fibs_connect.proofs.TurnLemmas.Faults.{goes_on}
use Rattle.fibs_connect.proofs.turns.hearing.hear_portion.Goals.{in-Some+in_ok-hear_line-in-Some, in-None}
use Rattle.fibs_connect.proofs.turns.hearing.hear_portion.Goals as goal

long : (n : ℕ) (xs : List ℕ) → 0 < n → n ≤ length xs → 0 < length (take n xs)
long n xs h k = omega (arith, h, k, length-take n xs)

pub loop-rest-init : goal.loop-rest-init
loop-rest-init g c =
    ([], refl, λ t at. gone_nothing g.met.F.Front.joins c.empty_piece_is_nothing.ensures t _ _ at, Keeps-refl _)

pub returns-in_err-hear_line-in-Some-clause-talked : goal.returns-in_err-hear_line-in-Some-clause-talked
returns-in_err-hear_line-in-Some-clause-talked g c =
    goes_on g.met.F.Front.joins c.from_residual.result _ _ _ _
    (λ Does far. Does (taken_act (taken_of c.in-Some.taken) ∷ []))
    (λ Does far. (t : Talk) → StandsAfter c.args.client.now t
    → Talked t c.read-heard.new.self c.args.portion.now far Does) c.from_residual.ensures.1
    (λ Late All joined did t at.
    let i = c.loop-rest.invariant in
    let rest = c.loop-rest.rest.now in
    let used = c.read-heard.result.used in
    let k = taken_of c.in-Some.taken in
    let gone = i.2 t at in
    let u = (step t (Piece i.0)).talk in
    let shown = subst (λ x. Shows c.read-heard.new.self c.read-heard.result (option_map taken_of x)) c.in-Some.is
    (c.got-got.ensures.shows c.read-heard.ensures.keeps) in
    let fed : FeedAnswers c.loop-rest.client rest used (Some k) = c.read-heard.ensures.answers (Some k) shown in
    broke_at g.met.F.Front.joins c.pieces_join.ensures c.lines_only_grow.ensures t c.read-heard.new.self i.0
    (take used rest)
    (drop used rest) c.args.portion.now (taken_act k ∷ []) _ _ Late All joined
    (front_more c.args.portion.now i.0 rest used i.1)
    (sym (piece_online t i.0) ∙ taken_online c.loop-rest.client rest used k fed u gone.stands) gone.did
    (c.read-heard.ensures.does.stands u gone.stands)
    (acts_taken c.loop-rest.client rest used (Some k) fed u gone.stands)
    (ends_taken c.loop-rest.client rest used k fed c.read-heard.ensures.in_range u gone.stands)
    (long used rest (c.read-heard.ensures.progress
    (grind (arith, c.is_empty.ensures, c.loop-rest-test.true))) c.read-heard.ensures.in_range)
    did) c.in_err-hear_line-in-Some.ensures.did

pub loop-rest-preserved : goal.loop-rest-preserved
loop-rest-preserved g c =
    let i = c.loop-rest.invariant in
    let rest = c.loop-rest.rest.now in
    let h = c.read-heard.result.used in
    let used = c.got-got.result.used in
    let taken = option_map taken_of c.got-got.result.taken in
    let shown = c.got-got.ensures.shows c.read-heard.ensures.keeps in
    let fed : FeedAnswers c.loop-rest.client rest h taken = c.read-heard.ensures.answers taken shown in
    let before = outside (g.S.Write.contents c.loop-rest.stream)
    c.loop-rest.front c.loop-rest.directory in
    let now = outside (g.S.Write.contents c.match-got.stream)
    c.match-got.front c.match-got.directory in
    let did : Did g.F.Front.tells before now (taken_acts taken) Whole = elim c.match-got.branch [
      | in-Some+in_ok-hear_line-in-Some w ↦ rw
          (w.directory-is, w.stream-is, w.front-is, w.in-Some.is) w.in_ok-hear_line-in-Some.ensures.did
      | in-None w ↦ rw (w.directory-is, w.stream-is, w.front-is, w.in-None.is) (did_nothing g.met.F.Front.joins _)
    ] in
    let apart : Keeps (g.S.Read.remaining c.loop-rest.stream) (g.S.Read.remaining c.match-got.stream) =
    elim c.match-got.branch [
      | in-Some+in_ok-hear_line-in-Some w ↦ rw w.stream-is w.hear_line.ensures.apart
      | in-None w ↦ rw w.stream-is (Keeps-refl _)
    ] in (
      i.0 ++ take used rest,
      front_more c.args.portion.now i.0 rest used i.1
          ∙ ap (λ l. i.0 ++ take used rest ++ l) (sym (take_rest rest used)),
      λ t at.
          let gone = i.2 t at in
          let u = (step t (Piece i.0)).talk in
          rw c.got-got.ensures.used
          (gone_more g.met.F.Front.joins c.pieces_join.ensures c.lines_only_grow.ensures t c.read-heard.new.self i.0
          (take h rest)
          (taken_acts taken) _ before now gone.did
          (c.read-heard.ensures.does.stands u gone.stands)
          (acts_taken c.loop-rest.client rest h taken fed u gone.stands) did),
      Keeps-trans _ _ _ i.3 apart,
    )
