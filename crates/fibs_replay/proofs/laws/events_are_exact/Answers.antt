use Rattle.fibs_replay.proofs.ScriptLemmas.EventTexts.{boards_are_exact}
use Rattle.fibs_replay.proofs.ScriptLemmas.Events.{events_are_exact}
use Rattle.fibs_replay.proofs.laws.events_are_exact.Goals as goal

pub returns : goal.returns
returns c = events_are_exact (record {
  commands = c.read_command_is_exact.ensures;
  plain = c.read_plain_is_exact.ensures;
  decimals = c.decimals_are_exact.ensures;
  boards = boards_are_exact c.reading_is_exact.ensures c.each_line_has_one_reading.ensures
      c.spellings_are_lines.ensures.begins;
})
