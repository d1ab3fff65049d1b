use Rattle.std.proofs.Common.{ap, arith, length}
use Rattle.fibs_json.specs.Passing.{members_of}
use Rattle.fibs_json.proofs.PlaceLemmas.{inside}
use Rattle.fibs_json.proofs.place.Place.append_inside.Goals as goal

pub returns : goal.returns
returns c = λ front is.
    inside c.args.text.now.items front c.truncate.new.self.items c.append_members.new.text.items
    c.push.new.self.items (members_of c.args.self.now) c.saturating_sub-inside.result is
    (omega (arith, c.saturating_sub-inside.ensures, ap length c.as_slice.ensures.value))
    c.truncate.ensures.items
    c.in_ok-append_members.ensures c.in_ok-push.ensures.items
