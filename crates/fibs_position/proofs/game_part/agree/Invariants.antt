use Rattle.std.proofs.Common.{◌≡◌, ◌-◌}
use Rattle.std.specs.Prelude.{map}
use Rattle.std.specs.List.{range_with_len}
use Rattle.fibs_fields.specs.Board.{field_of}
use Rattle.fibs_fields.specs.StoredBoard.{fields_of}
use Rattle.fibs_position.proofs.game_part.agree.Given as goal

abbrev pub invariant-loop-n : goal.invariant-loop-n
invariant-loop-n l =
    map (field_of (fields_of l.a)) (range_with_len l.first (l.n - l.first)) ≡ map (field_of (fields_of l.b))
    (range_with_len l.first (l.n - l.first))
