use Rattle.std.proofs.Common.{sym, subst}
use Rattle.fibs_messages.specs.Message.{MessageText}
use Rattle.fibs_messages.proofs.MessageLemmas.CanonicalLines.{canonical_said}
use Rattle.fibs_messages.proofs.laws.canonical_lines_read_back.Goals as goal

pub returns : goal.returns
returns c = λ m well line. (c.read.ensures.numbered m).1 (subst (MessageText m) (sym line) (canonical_said m well))
