use Rattle.std.proofs.Common.{◌≡◌, ◌+◌, ◌<◌, length, get_or, sym, ap, ◌∙◌, subst, arith, rules, length-set, length-drop}
use Rattle.std.specs.Prelude.{FitsSigned, pos}
use Rattle.std.specs.Int.{w8, w32, cast_signed, cast_unsigned}
use Rattle.std.proofs.lemmas.Int.{to_z-of_z}
use Rattle.fibs_fields.specs.Board.{field_values}
use Rattle.fibs_fields.proofs.BoardLemmas.FieldTable.{table_long}
use Rattle.fibs_fields.proofs.BoardLemmas.OneNumberMore.{fit_long}
use Rattle.fibs_fields.proofs.BoardLemmas.SmallNumbers.{small_at, copied_more}
use Rattle.fibs_fields.proofs.boards.numbers.narrowed.Goals as goal

pub overflow_cast-small : goal.overflow_cast-small
overflow_cast-small c =
    let z = get_or c.args.numbers.now (c.loop-i.i + 3) (pos 0) in
    let fits : FitsSigned w32 z = search rules in
    subst (FitsSigned w8) (sym (to_z-of_z w32 z fits))
    (small_at c.args.numbers.now c.loop-i.i c.requires (omega (arith, c.loop-i-test.true)))

pub loop-i-preserved : goal.loop-i-preserved
loop-i-preserved c =
    let i = c.loop-i.i in
    let zs = c.args.numbers.now in
    let z = get_or zs (i + 3) (pos 0) in
    let fits : FitsSigned w32 z = search rules in
    let within : i < 31 = omega (arith, c.loop-i-test.true) in
    let fifty : length zs ≡ 50 = fit_long field_values zs c.requires ∙ table_long in
    let there : i + 3 ≡ 3 + i = omega arith in
    let same : cast_signed w8 (cast_unsigned w8 (cast_signed w32 (cast_unsigned w32 z))) ≡ get_or zs (3 + i) (pos 0) =
    ap (λ y. cast_signed w8 (cast_unsigned w8 y)) (to_z-of_z w32 z fits)
    ∙ to_z-of_z w8 z (small_at zs i c.requires within) ∙ ap (λ k. get_or zs k (pos 0)) there in (
      length-set c.loop-i.small i _ ∙ c.loop-i.invariant.0,
      copied_more c.loop-i.small zs 3 i _ (omega (arith, within, c.loop-i.invariant.0)) (omega (arith, within, fifty))
          same (omega (arith, within, fifty, length-drop 3 zs)) c.loop-i.invariant.1,
    )
