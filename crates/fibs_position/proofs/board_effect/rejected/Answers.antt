use Rattle.std.proofs.Common.{refl}
use Rattle.fibs_fields.specs.Board.{field_values}
use Rattle.fibs_position.proofs.board_effect.rejected.Goals as goal

pub set-board-requires : goal.set-board-requires
unfolding field_values
set-board-requires c = refl

pub set-requires : goal.set-requires
unfolding field_values
set-requires c = refl
