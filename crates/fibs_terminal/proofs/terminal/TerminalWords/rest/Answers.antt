use Rattle.fibs_terminal.proofs.GrownLemmas.{on_any_ok, grown_then_kept, advice_shown}
use Rattle.fibs_terminal.proofs.terminal.TerminalWords.rest.Goals as goal

pub returns-in_ok-write_text-in-Ok-clause-told : goal.returns-in_ok-write_text-in-Ok-clause-told
returns-in_ok-write_text-in-Ok-clause-told g c = on_any_ok c.map_err.result
    (grown_then_kept _ _ _ _ c.in_ok-write_text-in-Ok.ensures.bytes c.flush.ensures.bytes)

pub returns-in_ok-write_text-in-Ok-clause-advice : goal.returns-in_ok-write_text-in-Ok-clause-advice
returns-in_ok-write_text-in-Ok-clause-advice g c = on_any_ok c.map_err.result (advice_shown c.args.client.now
    c.args.self.now.screen.page.settings c.args.self.now.screen.memory _ _ _ _ _
    (rw c.clear.ensures.items at c.in-Ok.ensures.rests) c.as_slice.ensures.value
    c.in_ok-write_text-in-Ok.ensures.bytes c.flush.ensures.bytes)
