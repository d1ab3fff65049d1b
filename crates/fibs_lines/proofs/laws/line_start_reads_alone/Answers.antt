use Rattle.fibs_lines.proofs.StreamLawProofs
use Rattle.fibs_lines.proofs.laws.line_start_reads_alone.Goals as goal

pub returns : goal.returns
returns c = StreamLawProofs.line_start_reads_alone
