use Rattle.fibs_position.specs.GameOf.{game_of}
use Rattle.fibs_terminal.proofs.TryingLemmas.{trial_drawn}
use Rattle.fibs_terminal.proofs.looking.append_drawn.Goals as goal

pub returns : goal.returns
returns c plain = trial_drawn c.args.page.now.settings c.args.trial.now (game_of c.after.result.now)
    c.new-row.result.items c.args.page.now.text.items c.append_picture.new.text.items c.append_command.new.text.items
    c.as_slice.result.now c.say_rows.new.page.text.items c.new-row.ensures.items c.after.ensures
    (c.in_ok-append_picture.ensures.drawn plain) c.in_ok-append_command.ensures c.as_slice.ensures.value
    c.in_ok-say_rows.ensures.said
