use Rattle.std.proofs.Common.{arith}
use Rattle.std.proofs.lemmas.Int.{ints}
use Rattle.fibs_position.proofs.BoardLemmas.SetFields.{may_turn}
use Rattle.fibs_position.proofs.board_effect.turn_given.Goals as goal

pub set-requires : goal.set-requires
set-requires c =
    let side = c.colour.ensures.side in
    may_turn c.fields_have_their_ranges.ensures _ (omega (arith, ints)) (omega (arith, ints))
