use Rattle.fibs_lines.specs.Lines.{value_of}
use Rattle.fibs_messages.specs.Line.{reading_of}
use Rattle.fibs_events.specs.Known.{known_of}
use Rattle.fibs_events.specs.InOrder.{events_of}
use Rattle.fibs_json.proofs.CountLemmas.{happened_counts}
use Rattle.fibs_json.proofs.EventLemmas.{line_and_events}
use Rattle.fibs_json.proofs.eventful.EventObjects.append_line.Goals as goal

pub returns-clause-shown : goal.returns-clause-shown
returns-clause-shown c =
    let told = c.in_ok-append_object.ensures in
    let happened = c.in_ok-append_happened.ensures.happened in
    line_and_events c.args.self.now.place (value_of c.args.line.now) happened.0 told.0 c.args.text.now.items
    c.append_object.new.text.items c.append_happened.new.text.items c.push.new.self.items told.1
    (known_of c.args.self.now.events, reading_of c.read.result, c.read.ensures.found, happened.1) told.2 happened.2
    c.in_ok-push.ensures.items

pub returns-clause-lines : goal.returns-clause-lines
returns-clause-lines c =
    let happened = c.in_ok-append_happened.ensures.happened in
    happened_counts c.args.self.now.counts c.append_happened.new.self.counts c.args.line.now.cut
    (reading_of c.read.result) (events_of happened.0) happened.3
