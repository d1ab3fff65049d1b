use Rattle.std.proofs.Common.{◌∷◌, [], codes}
use Rattle.fibs_json.specs.Counting.{event_members, line_members, other_members}
use Rattle.fibs_json.specs.Json.{more_members}
use Rattle.fibs_json.proofs.EventLemmas.{gained_five}
use Rattle.fibs_json.proofs.eventful.append_summary.Goals as goal

pub returns : goal.returns
returns c =
    let counts = c.args.counts.now in
    gained_five c.args.text.now.items (codes "{\"kind\":\"summary\"") (more_members (line_members counts))
    (more_members (other_members counts)) (more_members (event_members counts)) (125 ∷ 10 ∷ [])
    c.extend_from_slice.new.self.items c.append_line_counts.new.text.items c.append_other_counts.new.text.items
    c.append_event_counts.new.text.items c.extend_from_slice-2.new.self.items c.in_ok-extend_from_slice.ensures.items
    c.in_ok-append_line_counts.ensures c.in_ok-append_other_counts.ensures c.in_ok-append_event_counts.ensures
    c.in_ok-extend_from_slice-2.ensures.items
