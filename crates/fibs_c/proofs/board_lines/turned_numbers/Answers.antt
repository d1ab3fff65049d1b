use Rattle.std.proofs.Common.{◌+◌, ◌<◌, ℕ, length, length-set, w32, ◌∙◌, sym, subst}
use Rattle.std.proofs.lemmas.Int.{to_z-of_z}
use Rattle.fibs_fields.specs.StoredBoard.{fields_of}
use Rattle.fibs_c.specs.BoardLineDoor.{turned_field}
use Rattle.fibs_c.proofs.NumberLemmas.{written}
use Rattle.fibs_c.proofs.board_lines.turned_numbers.Goals as goal

pub loop-i-preserved : goal.loop-i-preserved
loop-i-preserved c =
    let within : c.loop-i.i < length c.loop-i.numbers =
    subst (λ (n : ℕ). c.loop-i.i < n) (sym c.loop-i.invariant.0) c.loop-i-test.true in (
      length-set c.loop-i.numbers c.loop-i.i _ ∙ c.loop-i.invariant.0,
      written _ _ _ c.turned_field.result (λ j. turned_field (fields_of c.args.board.now) (j + 4))
          (to_z-of_z w32 c.turned_field.result (record { sfits = c.turned_field.type_inv })) c.turned_field.ensures
          within
          c.loop-i.invariant.1,
    )
