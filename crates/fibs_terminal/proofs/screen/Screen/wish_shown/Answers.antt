use Rattle.fibs_rules.specs.PlayValue.{hops_of}
use Rattle.fibs_terminal.proofs.SendingLemmas.{command_on_word, command_untaken, taken_goes}
use Rattle.fibs_terminal.proofs.ShownLemmas.{command_takes, play_is_command}
use Rattle.fibs_terminal.proofs.screen.Screen.wish_shown.Goals as goal

pub returns-clause-takes : goal.returns-clause-takes
returns-clause-takes c =
    command_takes c.args.client.now c.args.self.now.page.settings.numbers
    c.args.self.now.memory.here.situation.standing (hops_of c.args.play.now) c.set_shown.new.line.items _ _
    c.set_shown.ensures c.wish_command.ensures.known

pub returns-clause-word : goal.returns-clause-word
returns-clause-word c =
    let numbers = c.args.self.now.page.settings.numbers in
    let standing = c.args.self.now.memory.here.situation.standing in
    command_on_word c.args.client.now numbers standing c.set_shown.new.line.items _ _
    (play_is_command c.args.client.now numbers (hops_of c.args.play.now) c.set_shown.new.line.items
    c.set_shown.ensures)
    (taken_goes c.args.client.now numbers standing c.set_shown.new.line.items _ _ c.wish_command.ensures.known)

pub returns-clause-sent : goal.returns-clause-sent
returns-clause-sent c =
    let numbers = c.args.self.now.page.settings.numbers in
    let standing = c.args.self.now.memory.here.situation.standing in
    command_untaken c.args.client.now numbers standing c.set_shown.new.line.items _ _
    (play_is_command c.args.client.now numbers (hops_of c.args.play.now) c.set_shown.new.line.items
    c.set_shown.ensures)
    (taken_goes c.args.client.now numbers standing c.set_shown.new.line.items _ _ c.wish_command.ensures.known)
