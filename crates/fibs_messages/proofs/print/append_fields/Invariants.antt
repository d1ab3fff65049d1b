use Rattle.std.proofs.Common.{◌≡◌, ◌++◌, take}
use Rattle.std.specs.List.{flat_map}
use Rattle.fibs_messages.specs.FieldOf.{values_of}
use Rattle.fibs_messages.specs.Message.{canonical_field}
use Rattle.fibs_messages.proofs.print.append_fields.Given as goal

abbrev pub invariant-loop-field : goal.invariant-loop-field
invariant-loop-field l =
    l.out.items ≡ l.initial.out.items ++ flat_map canonical_field (values_of (take l.field-index l.fields))
