use Rattle.std.proofs.Common.{arith, lit≤, refl}
use Rattle.std.proofs.lemmas.Int.{ints}
use Rattle.fibs_fields.specs.Board.{field_values}
use Rattle.fibs_position.proofs.BoardLemmas.SetFields.{may_show}
use Rattle.fibs_position.proofs.board_effect.rolled.Goals as goal

pub set-board-requires : goal.set-board-requires
set-board-requires c =
    let is = c.from.ensures in
    may_show c.fields_have_their_ranges.ensures 34 _ (lit≤ tt) (lit≤ tt) (omega (arith, ints)) (omega (arith, ints))

pub set-board-requires-2 : goal.set-board-requires-2
set-board-requires-2 c =
    let is = c.from-2.ensures in
    may_show c.fields_have_their_ranges.ensures 35 _ (lit≤ tt) (lit≤ tt) (omega (arith, ints)) (omega (arith, ints))

pub set-board-requires-3 : goal.set-board-requires-3
unfolding field_values
set-board-requires-3 c = refl

pub set-requires : goal.set-requires
unfolding field_values
set-requires c = refl
