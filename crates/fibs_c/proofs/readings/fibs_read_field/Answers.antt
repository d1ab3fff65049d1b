-- There is no such field, and nothing is written.
use Rattle.std.proofs.Common.{refl, subst}
use Rattle.std.specs.Prelude.{Option}
use Rattle.fibs_fields.specs.Field.{FieldValue}
use Rattle.fibs_messages.specs.Line.{ReadingValue}
use Rattle.fibs_c.specs.ReadingsDoor.{field_in, IsFieldTold}
use Rattle.fibs_c.proofs.readings.fibs_read_field.Goals as goal

pub returns-in-None : goal.returns-in-None
returns-in-None c =
    let field = c.args.field.now in let text = c.args.text.now in
    subst (λ (r : ReadingValue). IsFieldTold (field_in r c.args.number) field field text text 506) c.read.ensures.value
    (subst (λ (f : Option FieldValue). IsFieldTold f field field text text 506) c.in-None.ensures (refl, refl, refl))
