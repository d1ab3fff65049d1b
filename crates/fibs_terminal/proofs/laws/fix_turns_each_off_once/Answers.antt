use Rattle.fibs_terminal.proofs.FixingLemmas.{fix_turns_off}
use Rattle.fibs_terminal.proofs.laws.fix_turns_each_off_once.Goals as goal

pub returns : goal.returns
returns c = fix_turns_off
