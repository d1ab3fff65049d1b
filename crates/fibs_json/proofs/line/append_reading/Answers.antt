use Rattle.fibs_engine.proofs.OkLemmas.{on_ok_weaker}
use Rattle.fibs_messages.specs.Line.{reading_of}
use Rattle.fibs_json.proofs.line.append_reading.Goals as goal

pub returns : goal.returns
returns c =
    on_ok_weaker c.append_read.result
    (λ h. (reading_of c.read.result, h.0, c.read.ensures.found, h.1, h.2))
    c.append_read.ensures
