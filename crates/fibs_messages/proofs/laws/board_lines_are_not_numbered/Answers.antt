use Rattle.fibs_messages.proofs.MessageLemmas.MessageLines.{line_reads}
use Rattle.fibs_messages.proofs.MessageLemmas.MessageReadings.{board_not_numbered, has_number}
use Rattle.fibs_messages.proofs.laws.board_lines_are_not_numbered.Goals as goal

pub returns-clause-messages : goal.returns-clause-messages
returns-clause-messages c = λ line m says. has_number line m.number (line_reads m line says).number

pub returns-clause-boards : goal.returns-clause-boards
returns-clause-boards c = board_not_numbered
