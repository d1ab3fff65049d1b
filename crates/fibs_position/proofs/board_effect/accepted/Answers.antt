use Rattle.std.proofs.Common.{arith, refl, ◌≡◌}
use Rattle.std.specs.Prelude.{pos, neg_ℤ, ◌+ℤ◌, ◌-ℤ◌}
use Rattle.std.specs.Int.{w32, cast_signed, cast_unsigned}
use Rattle.std.proofs.lemmas.Int.{ints}
use Rattle.fibs_fields.specs.StoredBoard.{fields_of}
use Rattle.fibs_position.specs.OwnView.{colour}
use Rattle.fibs_fields.specs.Board.{field_values, field_of}
use Rattle.fibs_position.proofs.BoardLemmas.SetFields.{may_cube, may_turn}
use Rattle.fibs_position.proofs.board_effect.accepted.Goals as goal

pub set-board-requires : goal.set-board-requires
unfolding field_values
set-board-requires c = refl

pub set-board-requires-2 : goal.set-board-requires-2
set-board-requires-2 c =
    let cube = c.cube_of-cube.ensures.range in
    let is = c.cube_of-cube.ensures.value in
    may_cube c.fields_have_their_ranges.ensures _ (omega (arith, ints)) (omega (arith, ints))

pub set-board-requires-3 : goal.set-board-requires-3
unfolding field_values
set-board-requires-3 c = refl

pub set-board-requires-4 : goal.set-board-requires-4
unfolding field_values
set-board-requires-4 c = refl

pub set-requires : goal.set-requires
set-requires c =
    let side = c.colour-turn.ensures.side in
    may_turn c.fields_have_their_ranges.ensures _ (omega (arith, ints)) (omega (arith, ints))

pub returns : goal.returns
returns c =
    let cube = c.cube_of-cube.result in
    let side = c.colour-turn.result in
    let range = c.cube_of-cube.ensures.range in
    let is = c.cube_of-cube.ensures.value in
    let either = c.colour-turn.ensures.side in
    let twice : cast_signed w32
    (cast_unsigned w32 (cast_signed w32 (cast_unsigned w32 cube) +ℤ cast_signed w32 (cast_unsigned w32 cube)))
    ≡ field_of (fields_of c.args.board) 38 +ℤ field_of (fields_of c.args.board) 38 = omega (arith, ints) in
    let turn : cast_signed w32 (cast_unsigned w32 (pos 0 -ℤ cast_signed w32 (cast_unsigned w32 side))) ≡ neg_ℤ
    (colour (fields_of c.args.board)) = omega (arith, ints) in
    cc
