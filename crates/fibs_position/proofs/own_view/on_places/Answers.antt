use Rattle.std.proofs.Common.{arith, ℕ, ◌+◌, ◌≡◌, ◌<◌, length, ap, ◌∙◌}
use Rattle.std.specs.Prelude.{map}
use Rattle.std.specs.List.{range_with_len}
use Rattle.std.specs.Int.{w32, cast_signed, cast_unsigned}
use Rattle.std.proofs.lemmas.Int.{to_z-of_z}
use Rattle.std.proofs.Math.ListN.{length-set}
use Rattle.std.proofs.lemmas.List.Edits.{fill_by_more}
use Rattle.fibs_fields.specs.StoredBoard.{fields_of}
use Rattle.fibs_position.specs.OwnView.{stand_on, places}
use Rattle.fibs_position.proofs.BoardLemmas.NumberRanges.{filled_from}
use Rattle.fibs_position.proofs.own_view.on_places.Goals as goal

pub loop-i-preserved : goal.loop-i-preserved
loop-i-preserved c =
    let i = c.loop-i.i in
    let side = cast_signed w32 (cast_unsigned w32 c.args.side) in
    let at : ℕ → ℕ = λ k. stand_on (fields_of c.args.board.now) side (1 + k) in
    let found : c.stand_on.result ≡ at i = c.stand_on.ensures.value
    ∙ ap (stand_on (fields_of c.args.board.now) side) (omega arith) in
    let within : i < length c.loop-i.counts = omega arith in
    (simp length-set c.loop-i.invariant.0, rw found (fill_by_more at c.loop-i.counts i 0 within c.loop-i.invariant.1))

pub returns : goal.returns
unfolding places
returns c =
    let side = cast_signed w32 (cast_unsigned w32 c.args.side) in
    let same : side ≡ c.args.side = to_z-of_z w32 c.args.side c.ranges.side in
    let full =
    filled_from (stand_on (fields_of c.args.board.now) side) 1 c.loop-i.counts
    (λ k within. c.loop-i.invariant.1 k (omega arith)) in
    full ∙ ap (λ n. map (stand_on (fields_of c.args.board.now) side) (range_with_len 1 n)) c.loop-i.invariant.0
    ∙ ap (λ s. map (stand_on (fields_of c.args.board.now) s) (range_with_len 1 24)) same
