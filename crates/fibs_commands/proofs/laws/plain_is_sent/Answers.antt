use Rattle.fibs_commands.proofs.SentTexts.{plain_is_sent}
use Rattle.fibs_commands.proofs.laws.plain_is_sent.Goals as goal

pub returns : goal.returns
returns c =
    plain_is_sent (record {
      empty =
          c.empty_stream_has_no_line.ensures;
      its_line = c.sendable_text_is_its_line.ensures;
    })
