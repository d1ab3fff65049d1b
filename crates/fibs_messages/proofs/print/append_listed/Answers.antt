use Rattle.std.proofs.Common.{◌≡◌, ◌++◌, List, decimal, sym, ap, subst}
use Rattle.std.specs.List.{flat_map}
use Rattle.std.specs.Result.{OnOk}
use Rattle.fibs_fields.specs.Field.{FieldValue}
use Rattle.fibs_messages.specs.FieldOf.{listed}
use Rattle.fibs_messages.specs.Message.{canonical_field}
use Rattle.fibs_messages.proofs.print.append_listed.Goals as goal

pub returns-in-WhoInfo-clause-put : goal.returns-in-WhoInfo-clause-put
returns-in-WhoInfo-clause-put c =
    let P : List FieldValue → Type 0 =
    λ vs. OnOk c.append_who_info.result
    (c.append_who_info.new.out.items ≡ c.args.out.now.items
    ++ (decimal c.args.number ++ flat_map canonical_field vs)) in
    subst P (ap listed (sym c.in-WhoInfo.is)) c.append_who_info.ensures.put
