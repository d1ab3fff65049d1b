use Rattle.std.proofs.Common.{◌≡◌, ◌++◌, List, decimal, subst}
use Rattle.std.specs.List.{flat_map}
use Rattle.std.specs.Result.{OnOk}
use Rattle.fibs_fields.specs.Field.{FieldValue}
use Rattle.fibs_messages.specs.Message.{canonical_field}
use Rattle.fibs_messages.proofs.print.append_who_info.Goals as goal

pub returns-clause-put : goal.returns-clause-put
returns-clause-put c =
    let P : List FieldValue → Type 0 =
    λ vs. OnOk c.append_fields.result
    (c.append_fields.new.out.items ≡ c.args.out.now.items ++ (decimal c.args.number ++ flat_map canonical_field vs)) in
    subst P c.who_info_fields.ensures c.append_fields.ensures.put
