use Rattle.fibs_json.proofs.EventLemmas.{memory_only}
use Rattle.fibs_json.proofs.eventful.show_events.Goals as goal

pub returns-in-Err-clause-memory : goal.returns-in-Err-clause-memory
returns-in-Err-clause-memory g c = λ failed.
    let engine = c.engine_fault.ensures in
    let told = c.print_stream.ensures.memory
    (memory_only c.print_stream.result c.in-Err.fault c.engine_fault.result c.in-Err.is engine.reader engine.endless
    engine.writer failed) in
    (told.0, told.1, told.3)
