use Rattle.std.proofs.Common.{◌++◌, take}
use Rattle.fibs_session.proofs.Calls.Runs.{done_and_rest, joined}
use Rattle.fibs_tests.proofs.example.take.Goals as goal

pub loop-rest-preserved : goal.loop-rest-preserved
loop-rest-preserved c =
    let i = c.loop-rest.invariant in
    let done = i.0 in
    let rest = c.loop-rest.rest.now in
    let used = c.in_ok-used.used in (
      done ++ take used rest,
      done_and_rest c.args.piece.now done rest used i.1,
      joined c.pieces_join.ensures _ _ _ done (take used rest) _ _ _ i.2 c.in_ok-used.ensures.writes,
    )
