use Rattle.fibs_lines.proofs.FeedLemmas.{KeptAfter_none, StandsAfter-from_kept}
use Rattle.fibs_lines.proofs.lines.Lines.new.Goals as goal

pub returns-clause-stands : goal.returns-clause-stands
returns-clause-stands c = StandsAfter-from_kept _ _ (KeptAfter_none _ c.new.ensures)
