use Rattle.std.proofs.Common.{[], ◌++◌, take, vec_len, vec_capacity, refl, sym, subst}
use Rattle.fibs_model.specs.HearingOf.{RoomForPiece}
use Rattle.fibs_model.proofs.Likeness.Hearing.{hears_nothing, hears_joined, rest_is}
use Rattle.fibs_session.proofs.Calls.Runs.{done_and_rest}
use Rattle.fibs_model.proofs.world.hearing.hear_all.Goals as goal

pub loop-rest-init : goal.loop-rest-init
loop-rest-init c = record {
  done = [];
  whole = refl;
  heard = hears_nothing c.empty_piece_is_nothing.ensures c.args.client.now c.args.conn _ _;
  room = c.requires.room;
}

pub loop-rest-preserved : goal.loop-rest-preserved
loop-rest-preserved c =
    let i = c.loop-rest.invariant in
    let rest = c.loop-rest.rest.now in
    let used = c.hear_line-used.result in
    let log = c.hear_line-used.new.log in
    record {
      done = i.done ++ take used rest;
      whole = done_and_rest c.args.piece.now i.done rest used i.whole;
      heard =
          hears_joined c.pieces_join.ensures _ _ _ c.args.conn i.done (take used rest) _ _ _ _ _ _ i.heard
          c.hear_line-used.ensures.hears;
      room =
          subst
          (λ r. RoomForPiece c.hear_line-used.new.client c.args.conn r (vec_len log) (vec_capacity log)
          c.hear_line-used.new.wire.room) (sym (rest_is used rest)) c.hear_line-used.ensures.room;
    }
