-- What the program reports, as a value.
use Rattle.std.specs.Prelude.{option_map}
use Rattle.fibs_lines.specs.Lines.{value_of}
use Rattle.fibs_position.specs.GameOf.{game_of}
use Rattle.fibs_position.specs.Phases.{phase_of}
use Rattle.fibs_commands.specs.TextOf.{text_of}
use Rattle.fibs_messages.specs.Line.{reading_of}
use Rattle.fibs_messages.specs.Directory.View.{player_value}
use Rattle.fibs_session.specs.Calls.SessionOf.{ask_of}
use Rattle.fibs_connect.specs.declared.said.Said.{Said}
use Rattle.fibs_connect.specs.declared.said.Said.TheVariants as S
use Rattle.fibs_connect.specs.Told.{SaidValue, opened_said, no_connection_said, heard_said, phase_said, confirmed_said, sent_said, rolled_said, passed_said, ordered_said, withdrawn_said, refused_said, not_sent_said, unknown_said, lost_said, unnoted_said, player_said}

abbrev pub said_of : Said → SaidValue
said_of S.Opened = opened_said
said_of (S.NoConnection why) = no_connection_said why
said_of (S.Heard line reading game) = heard_said (value_of line.now) (reading_of reading.now)
said_of (S.Game game) = phase_said (phase_of (game_of game.now))
said_of (S.Confirmed asked) = confirmed_said (ask_of asked.now)
said_of (S.Sent command) = sent_said (text_of command.now)
said_of S.Rolled = rolled_said
said_of (S.Passed line) = passed_said line.now
said_of S.Ordered = ordered_said
said_of S.Withdrawn = withdrawn_said
said_of (S.Refused why) = refused_said why
said_of (S.NotSent why) = not_sent_said why
said_of S.Unknown = unknown_said
said_of (S.Lost waited) = lost_said (option_map ask_of waited.now)
said_of (S.Unnoted why) = unnoted_said why
said_of (S.Player player) = player_said (player_value player.now)
