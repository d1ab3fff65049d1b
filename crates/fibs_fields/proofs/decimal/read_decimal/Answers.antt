use Rattle.fibs_fields.proofs.NumberLemmas.UpToLimit.{up_to_found, up_to_above, up_to_refused, exact_of}
use Rattle.fibs_fields.proofs.decimal.read_decimal.Goals as goal

pub returns-in-Ok-clause-value : goal.returns-in-Ok-clause-value
returns-in-Ok-clause-value c =
    up_to_found c.args.limit c.in-Ok.number c.args.text.now c.unsigned_number.result c.ranges.limit.fits
    c.unsigned_number.ensures c.in-Ok.is c.if-number-limit.true

pub returns-in-Ok-clause-exact : goal.returns-in-Ok-clause-exact
returns-in-Ok-clause-exact c =
    exact_of c.args.limit c.args.text.now _ c.ranges.limit.fits (returns-in-Ok-clause-value c)

pub returns-in_default-clause-value : goal.returns-in_default-clause-value
returns-in_default-clause-value c =
    up_to_above c.args.limit c.in-Ok.number c.args.text.now c.unsigned_number.result c.ranges.limit.fits
    c.unsigned_number.ensures c.in-Ok.is c.if-number-limit.false

pub returns-in_default-clause-exact : goal.returns-in_default-clause-exact
returns-in_default-clause-exact c =
    exact_of c.args.limit c.args.text.now _ c.ranges.limit.fits (returns-in_default-clause-value c)

pub returns-in_default-2-clause-value : goal.returns-in_default-2-clause-value
returns-in_default-2-clause-value c =
    up_to_refused c.args.limit c.args.text.now c.unsigned_number.result c.in_default.field-0 c.ranges.limit.fits
    c.unsigned_number.ensures c.in_default.is

pub returns-in_default-2-clause-exact : goal.returns-in_default-2-clause-exact
returns-in_default-2-clause-exact c =
    exact_of c.args.limit c.args.text.now _ c.ranges.limit.fits (returns-in_default-2-clause-value c)
