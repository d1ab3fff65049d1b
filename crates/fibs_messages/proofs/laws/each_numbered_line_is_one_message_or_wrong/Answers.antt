use Rattle.fibs_messages.proofs.MessageLemmas.MessageReadings.{message_or_wrong, message_not_wrong, one_message, one_wrong}
use Rattle.fibs_messages.proofs.laws.each_numbered_line_is_one_message_or_wrong.Goals as goal

pub returns-clause-either : goal.returns-clause-either
returns-clause-either c = message_or_wrong

pub returns-clause-not_both : goal.returns-clause-not_both
returns-clause-not_both c = message_not_wrong

pub returns-clause-one_message : goal.returns-clause-one_message
returns-clause-one_message c = one_message

pub returns-clause-one_fault : goal.returns-clause-one_fault
returns-clause-one_fault c =
    λ line m n j k f g a b. let same = one_wrong line m n j k f g a b in (same.number, same.field, same.fault)
