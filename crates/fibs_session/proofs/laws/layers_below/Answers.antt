use Rattle.fibs_session.proofs.laws.layers_below.Goals as goal

pub returns : goal.returns
returns c = record {
  empty = c.empty_stream_has_no_line.ensures;
  grow = c.lines_only_grow.ensures;
  alone = c.what_follows_a_line_end_reads_alone.ensures;
  sent = c.sendable_text_is_its_line.ensures;
  printed = c.spellings_are_lines.ensures.printed;
  short = c.spellings_are_lines.ensures.short;
  begins = c.spellings_are_lines.ensures.begins;
  reading = c.reading_is_exact.ensures;
  one_reading = c.each_line_has_one_reading.ensures;
  good_exact = c.good_is_exact.ensures;
  likeness = c.same_game_is_a_likeness.ensures;
  game = c.same_game_is_exact.ensures;
  allowed = c.allowed_is_exact.ensures;
  decides = c.allowed_decides.ensures;
  decision = c.allowed_is_a_decision.ensures;
  acts = c.allowed_acts.ensures;
  commands = c.commands_are_printed.ensures;
  exact = c.read_command_is_exact.ensures;
  login = c.login_is_other.ensures;
  style = c.style_is_other.ensures;
  plain = c.plain_is_other.ensures;
  initial = c.initial_are_other.ensures;
  effect = c.effect_is_exact.ensures;
  effect_good = c.effect_is_good.ensures;
  no_three = c.no_three_in_a_row.ensures;
  ranges = c.fields_have_their_ranges.ensures;
  phase = c.phase_is_exact.ensures;
  carried = c.allowed_is_carried_out.ensures;
}
