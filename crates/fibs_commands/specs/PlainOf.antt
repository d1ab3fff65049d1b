-- Plain commands of the program as values.
use Rattle.std.specs.Prelude.{Some, None}
use Rattle.fibs_commands.specs.PlainCommands.{PlainValue, board_again, who, say, tell, shout, whisper, kibitz, leave_message, invite, invite_to, join, join_with, toggle_ready, automove_off, greedy_off, bye}
use Rattle.fibs_commands.specs.declared.plain.Plain.{Plain}
use Rattle.fibs_commands.specs.declared.plain.Plain.TheVariants.{Board, Who, Say, Tell, Shout, Whisper, Kibitz, Message, Invite, Join, ToggleReady, AutomoveOff, GreedyOff, Bye}

-- what the command says, with no address in it
abbrev pub plain_value : Plain → PlainValue
plain_value Board = board_again
plain_value Who = who
plain_value (Say text) = say text.now
plain_value (Tell name text) = tell name.now text.now
plain_value (Shout text) = shout text.now
plain_value (Whisper text) = whisper text.now
plain_value (Kibitz text) = kibitz text.now
plain_value (Message name text) = leave_message name.now text.now
plain_value (Invite name None) = invite name.now
plain_value (Invite name (Some points)) = invite_to name.now points
plain_value (Join None) = join
plain_value (Join (Some name)) = join_with name.now
plain_value ToggleReady = toggle_ready
plain_value AutomoveOff = automove_off
plain_value GreedyOff = greedy_off
plain_value Bye = bye
