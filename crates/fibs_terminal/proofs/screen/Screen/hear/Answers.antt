-- What is noted by its kind is noted, and then the title is put.
use Rattle.std.proofs.Common.{refl}
use Rattle.fibs_terminal.proofs.ReportedLemmas.{on_any}
use Rattle.fibs_terminal.proofs.screen.Screen.hear.Goals as goal

pub returns : goal.returns
returns c = on_any c.put.result (record {
  noted = c.hear_said.new.self.memory;
  notes = c.in_ok-hear_said.ensures;
  titled = refl;
})
