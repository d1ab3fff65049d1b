use Rattle.std.proofs.lemmas.Bool.Decides.{Decides-at}
use Rattle.fibs_messages.specs.Message.{own_info_fields}
use Rattle.fibs_fields.proofs.FieldLemmas.Equality.{same_values, same_values_decides}
use Rattle.fibs_messages.proofs.laws.own_infos_are_their_fields.Goals as goal

pub returns : goal.returns
returns c =
    let us = own_info_fields c.args.a.now in
    let vs = own_info_fields c.args.b.now in
    Decides-at c.eq.result (same_values us vs) c.eq.ensures (same_values_decides us vs)
