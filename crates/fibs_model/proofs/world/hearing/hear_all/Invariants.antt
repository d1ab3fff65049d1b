use Rattle.std.proofs.Common.{◌≡◌, ℕ, List, ◌++◌, length, map, vec_len, vec_capacity}
use Rattle.fibs_model.specs.EntryOf.{entry_of}
use Rattle.fibs_model.specs.HearingOf.{HearsPiece, RoomForPiece}
use Rattle.fibs_model.proofs.world.hearing.hear_all.Given as goal

-- a front of the piece was heard, and there is room for what is left
abbrev pub invariant-loop-rest : goal.invariant-loop-rest
invariant-loop-rest l = record {
  done : List ℕ;
  whole : l.fn.piece ≡ done ++ l.rest;
  heard :
      HearsPiece l.fn.client l.client l.conn done (map entry_of l.fn.log.items) (map entry_of l.log.items)
      l.fn.wire.items l.wire.items;
  room : RoomForPiece l.client l.conn l.rest (vec_len l.log) (vec_capacity l.log) l.wire.room;
}

abbrev pub decreases-loop-rest : goal.decreases-loop-rest
decreases-loop-rest l = length l.rest
