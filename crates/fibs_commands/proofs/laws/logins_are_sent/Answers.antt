use Rattle.fibs_commands.proofs.SentTexts.{logins_are_sent}
use Rattle.fibs_commands.proofs.laws.logins_are_sent.Goals as goal

pub returns : goal.returns
returns c =
    logins_are_sent (record {
      empty =
          c.empty_stream_has_no_line.ensures;
      its_line = c.sendable_text_is_its_line.ensures;
    })
