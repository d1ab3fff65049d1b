use Rattle.std.proofs.Common.{decimal, take}
use Rattle.std.specs.List.{flat_map}
use Rattle.fibs_messages.specs.FieldOf.{values_of}
use Rattle.fibs_messages.specs.Message.{canonical_field}
use Rattle.fibs_messages.proofs.MessageLemmas.Fronts.{front_kept}
use Rattle.fibs_messages.proofs.print.append_fields.Goals as goal

pub returns-in_err-append_field-clause-front : goal.returns-in_err-append_field-clause-front
returns-in_err-append_field-clause-front c =
    front_kept c.args.out.now.items (decimal c.args.number) c.append_number.new.text.items
    (flat_map canonical_field (values_of (take c.loop-field.field-index c.args.fields.now))) c.loop-field.out.items
    c.append_field.new.out.items
    c.in_ok-append_number.ensures.put c.loop-field.invariant c.append_field.ensures.front
