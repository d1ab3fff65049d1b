use Rattle.std.proofs.Common.{◌≡◌, ◌-◌}
use Rattle.std.specs.Prelude.{map}
use Rattle.std.specs.List.{range_with_len}
use Rattle.fibs_fields.specs.StoredBoard.{fields_of}
use Rattle.fibs_position.specs.BoardEffect.{set_fields, place_says}
use Rattle.fibs_position.proofs.board_effect.placed.Given as goal

abbrev pub invariant-loop-place : goal.invariant-loop-place
invariant-loop-place l =
    fields_of l.after ≡ set_fields (fields_of l.board)
    (map (place_says (fields_of l.board) l.reached) (range_with_len 1 (l.place - 1)))
