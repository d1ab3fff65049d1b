use Rattle.std.proofs.Common.{refl}
use Rattle.fibs_fields.proofs.BoardLemmas.SpelledBoards.{spelling_printed, spelling_short}
use Rattle.fibs_messages.proofs.laws.spellings_are_lines.Goals as goal

pub returns-clause-printed : goal.returns-clause-printed
returns-clause-printed c = spelling_printed

pub returns-clause-short : goal.returns-clause-short
returns-clause-short c = spelling_short

pub returns-clause-begins : goal.returns-clause-begins
returns-clause-begins c = λ b board. refl
