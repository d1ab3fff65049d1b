use Rattle.std.proofs.Common.{◌∷◌, [], codes}
use Rattle.fibs_json.specs.Events.{details, kind_members}
use Rattle.fibs_json.specs.Json.{more_members}
use Rattle.fibs_json.proofs.ObjectLemmas.{gained_four}
use Rattle.fibs_json.proofs.happened.append_event.Goals as goal

pub returns : goal.returns
returns c =
    let event = c.args.event.now in
    gained_four c.args.text.now.items (codes "{\"kind\":\"event\"") (more_members (kind_members c.args.number event))
    (details event) (125 ∷ []) c.extend_from_slice.new.self.items c.append_kind.new.text.items
    c.append_details.new.text.items c.push.new.self.items c.in_ok-extend_from_slice.ensures.items
    c.in_ok-append_kind.ensures c.in_ok-append_details.ensures c.in_ok-push.ensures.items
