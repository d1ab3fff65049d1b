use Rattle.std.proofs.Common.{arith, rules, ◌≡◌, ◌-◌, sym, ap, ◌∙◌}
use Rattle.std.specs.Prelude.{ℤ, FitsSigned, map, slice_index}
use Rattle.std.specs.List.{range_with_len}
use Rattle.std.specs.Int.{w32, cast_signed, cast_unsigned}
use Rattle.std.proofs.lemmas.Int.{ints, to_z-of_z}
use Rattle.fibs_fields.specs.StoredBoard.{fields_of}
use Rattle.fibs_position.specs.OwnView.{colour}
use Rattle.fibs_position.specs.BoardEffect.{set_fields, place_says, value_of}
use Rattle.fibs_position.proofs.BoardLemmas.SetFields.{may_stand, set_more, places_are}
use Rattle.fibs_position.proofs.board_effect.placed.Goals as goal

pub set-after-requires : goal.set-after-requires
set-after-requires c =
    let low = c.value_of-value.ensures.low in
    let high = c.value_of-value.ensures.high in
    may_stand c.fields_have_their_ranges.ensures _ _ (omega arith) (omega arith) (omega (arith, ints))
    (omega (arith, ints))

pub loop-place-preserved : goal.loop-place-preserved
loop-place-preserved c =
    let b = fields_of c.args.board.now in
    let side = c.colour-side.result in
    let z = c.value_of-value.result in
    let side_fits : FitsSigned w32 side = search rules in
    let fits : FitsSigned w32 z = search rules in
    let says : cast_signed w32 (cast_unsigned w32 z) ≡ value_of (colour b)
    (slice_index c.args.reached.now.own c.loop-place.place)
    (slice_index c.args.reached.now.other c.loop-place.place) =
    to_z-of_z w32 z fits
    ∙ c.value_of-value.ensures.value
    ∙ ap (λ (s : ℤ). value_of s c.own.result c.other.result)
    (to_z-of_z w32 side side_fits ∙ c.colour-side.ensures.value)
    ∙ ap (λ k. value_of (colour b) k c.other.result) c.own.ensures.value
    ∙ ap (λ k. value_of (colour b) (slice_index c.args.reached.now.own c.loop-place.place) k) c.other.ensures.value in
    set_more b (place_says b c.args.reached.now) _ _ c.loop-place.place _ _ c.loop-place.auto.place
    c.loop-place.invariant c.place_field.ensures.value says c.set-after.ensures

pub returns : goal.returns
returns c =
    let b = fields_of c.args.board.now in
    let all : c.loop-place.place - 1 ≡ 24 = omega arith in
    c.loop-place.invariant
    ∙ ap (λ k. set_fields b (map (place_says b c.args.reached.now) (range_with_len 1 k))) all
    ∙ ap (λ l. set_fields b (map (place_says b c.args.reached.now) l)) (sym places_are)
