use Rattle.std.proofs.Common.{◌∙◌, refl}
use Rattle.fibs_terminal.proofs.TryingLemmas.{command_of_it, sends_it, short}
use Rattle.fibs_terminal.proofs.looking.Looking.send_tried.Goals as goal

pub returns-in-Some-clause-tried : goal.returns-in-Some-clause-tried
returns-in-Some-clause-tried c t stands =
    let x = c.in-Some.trial in
    let now = (c.in-Some.ensures t stands x).0 refl in
    let same = c.as_bytes.ensures.value ∙ c.as_str.ensures.value in
    let line = c.set_line.ensures (short _ _ c.as_bytes.ensures.value c.as_str.ensures.fits) in
    sends_it t c.args.self.now.trial x c.set_line.new.line.items now
    (command_of_it t x c.set_line.new.line.items c.read_command_is_exact.ensures c.command.ensures.valid now.1
    (line ∙ same ∙ c.command.ensures.text))
