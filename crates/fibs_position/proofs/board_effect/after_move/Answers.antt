use Rattle.std.proofs.Common.{arith, refl, ◌≡◌, ap, ◌∙◌}
use Rattle.std.specs.Prelude.{pos, neg_ℤ, slice_index, ◌==◌, if◌then◌else◌}
use Rattle.std.specs.Int.{w32, cast_signed, cast_unsigned}
use Rattle.std.proofs.lemmas.Int.{ints}
use Rattle.fibs_fields.specs.Board.{field_values}
use Rattle.fibs_fields.specs.StoredBoard.{fields_of}
use Rattle.fibs_position.specs.OwnView.{colour}
use Rattle.fibs_position.specs.BoardEffect.{placed}
use Rattle.fibs_position.proofs.BoardLemmas.SetFields.{may_turn, may_off, set_last}
use Rattle.fibs_position.proofs.board_effect.after_move.Goals as goal

pub set-after-requires : goal.set-after-requires
set-after-requires c =
    let is = c.from.ensures in may_off c.fields_have_their_ranges.ensures _ (omega (arith, ints)) (omega (arith, ints))

pub set-after-requires-2 : goal.set-after-requires-2
unfolding field_values
set-after-requires-2 c = refl

pub set-after-requires-3 : goal.set-after-requires-3
unfolding field_values
set-after-requires-3 c = refl

pub set-requires : goal.set-requires
set-requires c =
    let low = c.turn_after-turn.ensures.low in
    let high = c.turn_after-turn.ensures.high in
    may_turn c.fields_have_their_ranges.ensures _ (omega (arith, ints)) (omega (arith, ints))

pub returns : goal.returns
returns c =
    let b = fields_of c.args.board.now in
    let q = c.args.reached.now in
    let is = c.from.ensures in
    let count = c.own-off.ensures.value in
    let low = c.turn_after-turn.ensures.low in
    let high = c.turn_after-turn.ensures.high in
    let off : cast_signed w32 (cast_unsigned w32 c.from.result) ≡ pos (slice_index q.own 0) = omega (arith, ints) in
    let turn : cast_signed w32 (cast_unsigned w32 c.turn_after-turn.result) ≡ c.turn_after-turn.result =
    omega (arith, ints) in
    let next : c.turn_after-turn.result ≡ (if slice_index q.own 0 == 15 then pos 0 else neg_ℤ (colour b)) =
    c.turn_after-turn.ensures.value ∙ ap (λ k. if k == 15 then pos 0 else neg_ℤ (colour b)) count in
    set_last b _ _ _ _ _ (placed b q) _ _ _ _ c.placed-after.ensures c.set-after.ensures c.set-after-2.ensures
    c.set-after-3.ensures c.set.ensures off (turn ∙ next)
