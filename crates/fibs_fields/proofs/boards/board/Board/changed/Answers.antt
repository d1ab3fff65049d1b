use Rattle.std.proofs.Common.{◌≡◌, ◌-◌, sym, ap, subst, ◌∙◌, true, nat_le, get_or, arith}
use Rattle.std.specs.Prelude.{pos, slice_get}
use Rattle.std.specs.Int.{w32, cast_signed, cast_unsigned}
use Rattle.std.proofs.lemmas.Bool.{and_parts}
use Rattle.std.proofs.lemmas.Int.{to_z-of_z}
use Rattle.std.proofs.lemmas.List.{get_or-set_same}
use Rattle.fibs_fields.specs.Board.{Fit, can_have, allowed_by, field_values}
use Rattle.fibs_fields.specs.StoredNumbers.{numbers_of}
use Rattle.fibs_fields.proofs.BoardLemmas.FieldTable.{table_long}
use Rattle.fibs_fields.proofs.BoardLemmas.OneNumberMore.{fit_long, fit_set}
use Rattle.fibs_fields.proofs.BoardLemmas.SmallNumbers.{small_fits}
use Rattle.fibs_fields.proofs.boards.board.Board.changed.Goals as goal

pub invariant_of-board : goal.invariant_of-board
invariant_of-board c =
    let z = cast_signed w32 (cast_unsigned w32 c.args.value) in
    let good : can_have c.args.n z ≡ true = sym c.if-not-can_have.ensures.test in
    let allowed = and_parts (nat_le 4 c.args.n) (allowed_by (slice_get field_values (c.args.n - 4)) z) good in
    record {
      valid = (
        c.args.self.now.valid.0,
        c.args.self.now.valid.1,
        subst (Fit field_values) (sym c.set.ensures)
            (fit_set field_values (numbers_of c.args.self.now.numbers) (c.args.n - 4) z c.args.self.now.valid.2
            allowed.1),
      );
    }

pub set-requires-clause-small : goal.set-requires-clause-small
set-requires-clause-small c low high =
    small_fits c.args.n _ (omega (arith, low)) (omega (arith, high)) (sym c.if-not-can_have.ensures.test)

pub returns-clause-changed : goal.returns-clause-changed
returns-clause-changed c =
    let i = c.args.n - 4 in
    let b = c.args.self.now in
    let long = fit_long field_values (numbers_of b.numbers) b.valid.2 ∙ table_long in
    let place = c.can_have.ensures.place (c.can_have.ensures.test ∙ sym c.if-not-can_have.ensures.test) in
    ap (λ l. get_or l i (pos 0)) c.set.ensures
    ∙ get_or-set_same (numbers_of b.numbers) i _ (pos 0) (omega (arith, long, place.0, place.1))
    ∙ to_z-of_z w32 c.args.value c.ranges.value
