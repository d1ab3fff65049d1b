use Rattle.fibs_terminal.proofs.SentLemmas.{rests}
use Rattle.fibs_terminal.proofs.screen.Screen.rest.Goals as goal

pub returns-clause-rests : goal.returns-clause-rests
returns-clause-rests c =
    rests c.args.client.now c.args.self.now.page.settings c.args.self.now.memory c.columns-columns.result _ _ _ _
    c.in_ok-advice.advice c.columns-columns.ensures c.in_ok-show_sent_below.ensures.sent
    (λ stands. c.in_ok-show_sent_below.ensures.held (c.is_held-is_held.ensures.1 stands))
    c.in_ok-say_rematch.ensures
    c.in_ok-advice.ensures.advises c.in_ok-say.ensures.row
