use Rattle.std.proofs.Common.{◌≡◌, true, false, cond, sym, ap, ◌∙◌, Ok, Err, rules}
use Rattle.fibs_fields.specs.declared.fault.Fault.TheVariants.{OutOfRange}
use Rattle.std.specs.Prelude.{FitsSigned}
use Rattle.std.specs.Int.{w32, w64, cast_signed, cast_unsigned}
use Rattle.std.proofs.lemmas.Int.{to_z-of_z}
use Rattle.fibs_fields.specs.Decimal.{allows, number_if_allowed}
use Rattle.fibs_fields.proofs.NumberLemmas.CappedNumbers.{allowed_narrow}
use Rattle.fibs_fields.proofs.decimal.in_range.Goals as goal

pub returns-then-allows-clause-value : goal.returns-then-allows-clause-value
returns-then-allows-clause-value c =
    let fits : FitsSigned w64 c.in-Some.number = search rules in
    let same : cast_signed w64 (cast_unsigned w64 c.in-Some.number) ≡ c.in-Some.number =
    to_z-of_z w64 c.in-Some.number fits in
    let test : allows c.args.values c.in-Some.number ≡ true =
    ap (allows c.args.values) (sym same) ∙ sym c.allows.ensures.test ∙ c.if-allows.true in
    let narrow : FitsSigned w32 c.in-Some.number =
    allowed_narrow c.args.values c.in-Some.number c.allows.ensures.narrow test in
    ap (λ z. Ok (cast_signed w32 (cast_unsigned w32 z))) same ∙ ap Ok (to_z-of_z w32 c.in-Some.number narrow)
    ∙ sym (ap (number_if_allowed c.args.values) c.in-Some.is
    ∙ ap (λ b. cond b (Ok c.in-Some.number) (Err OutOfRange)) test)

pub returns-else-allows-clause-value : goal.returns-else-allows-clause-value
returns-else-allows-clause-value c =
    let fits : FitsSigned w64 c.in-Some.number = search rules in
    let same : cast_signed w64 (cast_unsigned w64 c.in-Some.number) ≡ c.in-Some.number =
    to_z-of_z w64 c.in-Some.number fits in
    let test : allows c.args.values c.in-Some.number ≡ false =
    ap (allows c.args.values) (sym same) ∙ sym c.allows.ensures.test ∙ c.if-allows.false in
    sym (ap (number_if_allowed c.args.values) c.in-Some.is
    ∙ ap (λ b. cond b (Ok c.in-Some.number) (Err OutOfRange)) test)
