use Rattle.std.proofs.Common.{rules, ◌≡◌, ◌++◌, arith, length, [], take, refl, ◌∙◌}
use Rattle.std.specs.Io.KnownBytes.{Consumes}
use Rattle.std.proofs.KnownBytes.{Consumes-nil, Consumes-trans, Consumes-kept}
use Rattle.fibs_session.specs.History.Machine.{Piece, step}
use Rattle.fibs_engine.specs.Writing.{Whole, Broken}
use Rattle.fibs_connect.proofs.TurnLemmas.Wrote.{consumes_none}
use Rattle.fibs_connect.proofs.TurnLemmas.Scripts.{did_joined}
use Rattle.fibs_connect.proofs.TurnLemmas.Turns.{gone_nothing, gone_kept, gone_portion, broke_portion, talked_all, turned_whole}
use Rattle.fibs_connect.proofs.TurnLemmas.Reads.{more_read, few_and_none, few_and_portion}
use Rattle.fibs_connect.proofs.TurnLemmas.Stops.{listened_fault, listened_lost, stopped_whole, stopped_portion}
use Rattle.fibs_connect.proofs.turns.listen.Goals as goal

pub loop-made-init : goal.loop-made-init
loop-made-init g c = (
  [],
  Consumes-nil _,
  (λ t at. gone_nothing g.met.F.Front.joins c.empty_piece_is_nothing.ensures t _ _ at),
  omega arith,
  refl,
)

pub returns-in_err-flush-clause-turned : goal.returns-in_err-flush-clause-turned
returns-in_err-flush-clause-turned g c = λ t at on.
    let i = c.loop-made.invariant in
    let gone = i.2 t at in
    listened_fault g.F.Front.tells c.from_residual.result _ t _ _ _ _ _ c.from_residual.ensures.1
    (stopped_whole g.F.Front.tells t _ _ _ i.0 _ _ on i.1 gone)

pub returns-in-Ok-eq0-clause-turned : goal.returns-in-Ok-eq0-clause-turned
returns-in-Ok-eq0-clause-turned g c = λ t at on.
    let i = c.loop-made.invariant in
    let bytes = rw c.in-Ok-eq0.is at c.receive.ensures.bytes in
    let took : Consumes (g.S.Read.remaining c.args.stream.now) (g.S.Read.remaining c.receive.new.self) i.0 =
    consumes_none _ _ _ i.0 c.in-Ok-eq0.field-0 c.receive.new.buf i.1 bytes.0 c.in-Ok-eq0.field-0-test in
    let gone = gone_kept g.met.F.Front.joins t _ i.0 _ _ _ (i.2 t at) c.receive.ensures.apart c.in_ok-flush.ensures
    refl in
    listened_lost g.F.Front.tells g.met.F.Front.joins c.end_connection.result Whole t _ _ _ _ i.0 _ _ _ _ _ on took
    (talked_all t _ i.0 _ gone.stands gone.did) c.end_connection.ensures.ended c.end_connection.ensures.lost

pub returns-in-Err-clause-turned : goal.returns-in-Err-clause-turned
returns-in-Err-clause-turned g c = λ t at on.
    let i = c.loop-made.invariant in
    let gone = gone_kept g.met.F.Front.joins t _ i.0 _ _ _
    (i.2 t at) c.receive.ensures.apart c.in_ok-flush.ensures refl in
    turned_whole g.met.F.Front.joins t _ _ _ i.0 _ _ on (Consumes-kept _ _ _ i.0 i.1 c.in-Err.ensures.bytes) gone

pub returns-in-Err-2-clause-turned : goal.returns-in-Err-2-clause-turned
returns-in-Err-2-clause-turned g c = λ t at on.
    let i = c.loop-made.invariant in
    let gone = gone_kept g.met.F.Front.joins t _ i.0 _ _ _ (i.2 t at) c.receive.ensures.apart c.in_ok-flush.ensures
    refl in
    listened_lost g.F.Front.tells g.met.F.Front.joins c.end_connection-in-Err-2.result Whole t _ _ _ _ i.0 _ _ _ _ _ on
    (Consumes-kept _ _ _ i.0 i.1 c.in-Err-2.ensures.bytes) (talked_all t _ i.0 _ gone.stands gone.did)
    c.end_connection-in-Err-2.ensures.ended c.end_connection-in-Err-2.ensures.lost

pub returns-in-Err-Stream-clause-turned : goal.returns-in-Err-Stream-clause-turned
returns-in-Err-Stream-clause-turned g c = λ t at on.
    let i = c.loop-made.invariant in
    let joins = g.met.F.Front.joins in
    let piece = take c.in-Ok.count c.receive.new.buf in
    let took = Consumes-trans _ _ _ i.0 piece i.1
    (Consumes-kept _ _ _ piece c.in-Ok.ensures.bytes.0 c.hear_portion.ensures.apart) in
    let gone = gone_kept joins t _ i.0 _ _ _ (i.2 t at) c.receive.ensures.apart c.in_ok-flush.ensures refl in
    let talked = broke_portion joins c.pieces_join.ensures c.lines_only_grow.ensures t _ _ i.0 piece _ _ _ _
    (λ xs ys first late. did_joined joins Broken _ _ _ xs ys first late) on gone
    ((rw c.in-Err-Stream.field-0-is at c.in-Err-Stream.ensures.talked) (step t (Piece i.0)).talk gone.stands) in
    listened_lost g.F.Front.tells joins c.end_connection-in-Err-Stream.result Broken t _ _ _ _ (i.0 ++ piece) _ _ _ _ _
    on took talked
    c.end_connection-in-Err-Stream.ensures.ended c.end_connection-in-Err-Stream.ensures.lost

pub returns-in-Err-Output-clause-turned : goal.returns-in-Err-Output-clause-turned
returns-in-Err-Output-clause-turned g c = λ t at on.
    let i = c.loop-made.invariant in
    let piece = take c.in-Ok.count c.receive.new.buf in
    let took = Consumes-trans _ _ _ i.0 piece i.1
    (Consumes-kept _ _ _ piece c.in-Ok.ensures.bytes.0 c.hear_portion.ensures.apart) in
    let gone = gone_kept g.met.F.Front.joins t _ i.0 _ _ _
    (i.2 t at) c.receive.ensures.apart c.in_ok-flush.ensures refl in
    stopped_portion g.F.Front.tells g.met.F.Front.joins c.pieces_join.ensures c.lines_only_grow.ensures t _ _ _ _ i.0
    piece _ _ _ on took gone
    ((rw c.in-Err-Output.field-0-is at c.in-Err-Output.ensures.talked) (step t (Piece i.0)).talk gone.stands)

pub returns-clause-turned : goal.returns-clause-turned
returns-clause-turned g c = λ t at on.
    let i = c.loop-made.invariant in
    turned_whole g.met.F.Front.joins t _ _ _ i.0 _ _ on i.1 (i.2 t at)

pub loop-made-preserved : goal.loop-made-preserved
loop-made-preserved g c =
    let i = c.loop-made.invariant in
    let piece = take c.in-Ok.count c.receive.new.buf in
    let whole : length c.receive.new.buf ≡ length c.loop-made.portion = search rules in (
      i.0 ++ piece,
      Consumes-trans _ _ _ i.0 piece i.1 (Consumes-kept _ _ _ piece c.in-Ok.ensures.bytes.0
          c.hear_portion.ensures.apart),
      λ t at.
          let gone = gone_kept g.met.F.Front.joins t _ i.0 _ _ _
          (i.2 t at) c.receive.ensures.apart c.in_ok-flush.ensures refl in
          gone_portion g.met.F.Front.joins c.pieces_join.ensures c.lines_only_grow.ensures t _ _ i.0 piece _ _ _ gone
          (c.in-Ok-hear_portion.ensures.talked (step t (Piece i.0)).talk gone.stands),
      more_read _ _ i.0 c.in-Ok.count c.receive.new.buf i.3 (whole ∙ i.4),
      whole ∙ i.4,
    )

pub returns-in-Err-clause-few : goal.returns-in-Err-clause-few
returns-in-Err-clause-few g c =
    let i = c.loop-made.invariant in
    few_and_none c.loop-made.made 4096 _ _ _ _ i.0 i.1 i.3 c.loop-made-test.true c.in-Err.ensures.bytes

pub returns-in-Err-2-clause-few : goal.returns-in-Err-2-clause-few
returns-in-Err-2-clause-few g c =
    let i = c.loop-made.invariant in
    few_and_none c.loop-made.made 4096 _ _ _ _ i.0 i.1 i.3 c.loop-made-test.true c.in-Err-2.ensures.bytes

pub returns-in-Err-Output-clause-few : goal.returns-in-Err-Output-clause-few
returns-in-Err-Output-clause-few g c =
    let i = c.loop-made.invariant in
    let whole : length c.receive.new.buf ≡ length c.loop-made.portion = search rules in
    few_and_portion c.loop-made.made 4096 _ _ _ _ _ i.0 c.in-Ok.count c.receive.new.buf i.1 i.3 c.loop-made-test.true
    (whole ∙ i.4)
    c.in-Ok.ensures.bytes.0 c.hear_portion.ensures.apart

pub returns-in-Err-Stream-clause-few : goal.returns-in-Err-Stream-clause-few
returns-in-Err-Stream-clause-few g c =
    let i = c.loop-made.invariant in
    let whole : length c.receive.new.buf ≡ length c.loop-made.portion = search rules in
    few_and_portion c.loop-made.made 4096 _ _ _ _ _ i.0 c.in-Ok.count c.receive.new.buf i.1 i.3 c.loop-made-test.true
    (whole ∙ i.4)
    c.in-Ok.ensures.bytes.0 c.hear_portion.ensures.apart
