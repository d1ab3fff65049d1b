use Rattle.std.proofs.Common.{ap, ◌∙◌}
use Rattle.fibs_fields.specs.Decimal.{decimal_value, number_if_allowed}
use Rattle.fibs_fields.proofs.NumberLemmas.CappedNumbers.{same_if_allowed}
use Rattle.fibs_fields.proofs.decimal.number_in.Goals as goal

pub returns-in_default : goal.returns-in_default
returns-in_default c =
    c.in_range-in_default.ensures.value ∙ ap (number_if_allowed c.args.values) c.long_decimal.ensures
    ∙ same_if_allowed c.args.values (decimal_value c.args.text.now) c.in_range-in_default.ensures.narrow
