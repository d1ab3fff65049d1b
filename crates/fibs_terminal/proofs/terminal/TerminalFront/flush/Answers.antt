use Rattle.fibs_terminal.proofs.GrownLemmas.{on_any_ok, grown_kept}
use Rattle.fibs_terminal.proofs.terminal.TerminalFront.flush.Goals as goal

pub returns : goal.returns
returns g c = on_any_ok c.map_err.result (grown_kept _ _ c.flush.ensures.bytes)
