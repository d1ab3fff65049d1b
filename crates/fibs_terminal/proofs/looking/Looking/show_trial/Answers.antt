use Rattle.fibs_terminal.proofs.TryingLemmas.{trial_shown}
use Rattle.fibs_terminal.proofs.looking.Looking.show_trial.Goals as goal

pub returns-clause-shown : goal.returns-clause-shown
returns-clause-shown c = trial_shown c.args.page.now.settings c.args.trial c.args.page.now.text.items
    c.append_trial.new.page.text.items c.in_ok-append_trial.ensures.drawn c.in_ok-append_trial.ensures.told
