use Rattle.fibs_lines.proofs.StreamLawProofs
use Rattle.fibs_lines.proofs.laws.line_end_is_a_line_start.Goals as goal

pub returns : goal.returns
returns c = StreamLawProofs.line_end_is_a_line_start
