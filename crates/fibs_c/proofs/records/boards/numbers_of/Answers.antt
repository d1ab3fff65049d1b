use Rattle.std.proofs.Common.{◌+◌, ◌<◌, ℕ, length, length-set, w32, ◌∙◌, sym, subst}
use Rattle.std.proofs.lemmas.Int.{to_z-of_z}
use Rattle.fibs_fields.specs.Board.{field_of}
use Rattle.fibs_fields.specs.StoredBoard.{fields_of}
use Rattle.fibs_c.proofs.NumberLemmas.{written}
use Rattle.fibs_c.proofs.records.boards.numbers_of.Goals as goal

pub loop-i-preserved : goal.loop-i-preserved
loop-i-preserved c =
    let within : c.loop-i.i < length c.loop-i.numbers =
    subst (λ (n : ℕ). c.loop-i.i < n) (sym c.loop-i.invariant.0) c.loop-i-test.true in (
      length-set c.loop-i.numbers c.loop-i.i _ ∙ c.loop-i.invariant.0,
      written _ _ _ c.field.result (λ j. field_of (fields_of c.args.board.now) (j + 4))
          (to_z-of_z w32 c.field.result (record { sfits = c.field.type_inv })) c.field.ensures.value within
          c.loop-i.invariant.1,
    )
