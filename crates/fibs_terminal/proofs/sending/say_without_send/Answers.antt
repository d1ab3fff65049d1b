use Rattle.fibs_terminal.proofs.SendingLemmas.{says_without}
use Rattle.fibs_terminal.proofs.sending.say_without_send.Goals as goal

pub returns : goal.returns
returns c t stands =
    says_without c.args.page.now.settings.numbers t c.args.line.now _ _ _ _ c.decision_typed-decision.result
    c.way_now-way.result c.shown_is_read.ensures c.decisions_are_valid.ensures (c.way_now-way.ensures t stands)
    (c.decision_typed-decision.ensures t stands) c.in_ok-extend_from_slice.ensures.items
    c.in_ok-append_as_typed.ensures c.in_ok-extend_from_slice-2.ensures.items
