use Rattle.std.proofs.Common.{◌++◌, ap, ◌∙◌}
use Rattle.std.specs.List.{flat_map}
use Rattle.fibs_engine.proofs.OkLemmas.{on_ok_weaker}
use Rattle.fibs_messages.specs.Message.{message_of}
use Rattle.fibs_json.specs.Parts.{field_text}
use Rattle.fibs_json.proofs.ObjectLemmas.{said}
use Rattle.fibs_json.proofs.fields.append_message.Goals as goal

pub returns : goal.returns
returns c =
    let m = message_of c.args.message.now in
    let mid = c.append_word.new.text.items in
    on_ok_weaker c.append_columns.result
    (λ e. said m c.args.text.now.items c.append_message_number.new.text.items mid c.append_columns.new.text.items
    c.in_ok-append_message_number.ensures c.in_ok-append_word.ensures
    (e ∙ ap (λ fields. mid ++ flat_map (field_text m.fields) fields) c.columns_for.ensures))
    c.append_columns.ensures
