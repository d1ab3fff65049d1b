use Rattle.fibs_commands.proofs.SentTexts.{decisions_are_sent}
use Rattle.fibs_commands.proofs.laws.decisions_are_sent.Goals as goal

pub returns : goal.returns
returns c =
    decisions_are_sent (record {
      empty =
          c.empty_stream_has_no_line.ensures;
      its_line = c.sendable_text_is_its_line.ensures;
    })
    c.commands_are_printed.ensures c.commands_are_short.ensures
