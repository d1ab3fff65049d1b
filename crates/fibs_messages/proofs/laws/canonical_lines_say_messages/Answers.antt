use Rattle.std.proofs.Common.{sym, subst}
use Rattle.fibs_messages.specs.Message.{MessageText, canonical}
use Rattle.fibs_messages.proofs.MessageLemmas.CanonicalLines.{canonical_said}
use Rattle.fibs_messages.proofs.MessageLemmas.MessageReadings.{one_message}
use Rattle.fibs_messages.proofs.laws.canonical_lines_say_messages.Goals as goal

pub returns-clause-says : goal.returns-clause-says
returns-clause-says c = canonical_said

pub returns-clause-tells : goal.returns-clause-tells
returns-clause-tells c =
    λ l m a b same. one_message (canonical l) l m (canonical_said l a)
    (subst (MessageText m) (sym same) (canonical_said m b))
