use Rattle.fibs_lines.proofs.StreamLawProofs
use Rattle.fibs_lines.proofs.laws.what_follows_a_line_end_reads_alone.Goals as goal

pub returns : goal.returns
returns c = StreamLawProofs.what_follows_a_line_end_reads_alone
