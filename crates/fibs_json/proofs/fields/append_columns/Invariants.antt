use Rattle.std.proofs.Common.{◌≡◌, ◌++◌, take}
use Rattle.std.specs.List.{flat_map}
use Rattle.fibs_messages.specs.Message.{message_of}
use Rattle.fibs_json.specs.Columns.{fields_of_columns}
use Rattle.fibs_json.specs.Parts.{field_text}
use Rattle.fibs_json.proofs.fields.append_columns.Given as goal

abbrev pub invariant-loop-column : goal.invariant-loop-column
invariant-loop-column l =
    l.text.items ≡ l.initial.text.items
    ++ flat_map (field_text (message_of l.message).fields) (fields_of_columns (take l.column-index l.columns))
