use Rattle.fibs_messages.proofs.DirectoryLemmas.Notes.{noted_number}
use Rattle.fibs_messages.proofs.directory.laws.other_messages_change_nothing.Goals as goal

pub returns : goal.returns
returns c = λ messages entries message no_five no_eight is. noted_number messages entries message is no_five no_eight
