use Rattle.std.proofs.Common.{◌∙◌, ap}
use Rattle.fibs_terminal.proofs.AgainLemmas.{ends_so}
use Rattle.fibs_terminal.proofs.screen.Screen.say_lost.Goals as goal

pub returns-in-None-clause-says : goal.returns-in-None-clause-says
returns-in-None-clause-says c =
    ends_so c.say.result c.args.self.now.memory.program.reconnecting c.has_left-has_left.result
    c.hear_lost-fixes.result c.end_words.result.now c.args.self.now.page.text.items c.say.new.self.text.items
    (c.has_left-has_left.ensures ∙ ap (λ r. r.leaves) c.hear_lost.ensures) c.end_words.ensures c.say.ensures.said
