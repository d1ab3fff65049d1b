use Rattle.fibs_terminal.proofs.TryingLemmas.{trial_told}
use Rattle.fibs_terminal.proofs.looking.append_told.Goals as goal

pub returns : goal.returns
returns c = trial_told c.args.page.now.settings c.args.trial.now c.new-said.result.items
    c.append_changes.new.text.items c.append_command.new.text.items c.as_slice.result.now
    c.args.page.now.text.items c.say_rows.new.page.text.items c.new-said.ensures.items
    c.in_ok-append_changes.ensures c.in_ok-append_command.ensures c.as_slice.ensures.value c.in_ok-say_rows.ensures.said
