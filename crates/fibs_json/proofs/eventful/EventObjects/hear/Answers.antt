use Rattle.fibs_messages.specs.Line.{reading_of}
use Rattle.fibs_events.specs.Known.{known_of}
use Rattle.fibs_json.proofs.EventLemmas.{heard_by}
use Rattle.fibs_json.proofs.eventful.EventObjects.hear.Goals as goal

pub returns-else-line-clause-heard : goal.returns-else-line-clause-heard
returns-else-line-clause-heard c =
    heard_by c.hear.result c.args.line.now.cut (known_of c.args.self.now.events) (reading_of c.args.reading.now)
    c.if-line.false c.hear.ensures.played c.hear.ensures.rolled c.hear.ensures.said
