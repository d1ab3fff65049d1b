-- Backgammon as FIBS plays and spells it, as a game: the one place where the words of a game meet those of backgammon
-- and of CLIP.
use Rattle.std.specs.Prelude.{ℕ, Bool, true, false, ◌&&◌, List, [], ◌∷◌, ◌++◌, Option, None, Some, pos, option_map, if◌then◌else◌, nat_eq}
use Rattle.std.specs.Ordering.{int_eq}
use Rattle.fibs_game.specs.Game.{Game, Flags, Says, welcomes, informs, shows, says_nothing}
use Rattle.fibs_lines.specs.Lines.{ReadLine, lines_of}
use Rattle.fibs_fields.specs.Board.{BoardFields, field_of, spelling}
use Rattle.fibs_messages.specs.Message.{MessageValue}
use Rattle.fibs_messages.specs.Line.{ReadingValue, numbered_line, board_line, text_line, malformed_line, reading_value}
use Rattle.fibs_messages.specs.Flags.{autoboard, automove, greedy, moreboards}
use Rattle.fibs_position.specs.Allowed.{IsAllowed}
use Rattle.fibs_position.specs.BoardEffect.{Effect, effect_of, is_die}
use Rattle.fibs_position.specs.DecisionValue.{DecisionValue, roll}
use Rattle.fibs_position.specs.DirectionOf.{direction_of}
use Rattle.fibs_position.specs.GamePart.{Differ, same_game}
use Rattle.fibs_position.specs.GoodBoard.{IsGood, good}
use Rattle.fibs_position.specs.Phases.{phase_of, decides}
use Rattle.fibs_position.specs.declared.phase.Phase.{Phase}
use Rattle.fibs_position.specs.declared.phase.Phase.TheVariants.{RollOrDouble}
use Rattle.fibs_commands.specs.Commands.{command_of}
use Rattle.fibs_commands.specs.CommandReading.{read_command}
use Rattle.fibs_commands.specs.FirstCommands.{style_text, autoboard_text, moreboards_text, board_text}
use Rattle.fibs_commands.specs.PlainCommands.{PlainValue, automove_off, greedy_off, plain_of, plain_fault_of}
use Rattle.fibs_session.specs.declared.histories.refusal.PlainRefusal.{PlainRefusal}
use Rattle.fibs_session.specs.declared.histories.refusal.PlainRefusal.TheVariants as P
use Rattle.fibs_session.specs.History.Allows.{allows}

-- the phase before the roll
abbrev pub is_to_roll : Phase → Bool
is_to_roll RollOrDouble = true
is_to_roll phase = false

-- the reading of a line. A line that was cut is a text
abbrev pub line_reading : ReadLine → ReadingValue
line_reading line = if line.cut then text_line line.bytes else reading_value line.bytes

-- the answer to the first message 2 of a connection: the toggles of what is off, and then `board`
abbrev pub initial_commands : MessageValue → List (List ℕ)
initial_commands m =
    (if autoboard m then [] else autoboard_text ∷ [])
    ++ (if moreboards m then [] else moreboards_text ∷ [])
    ++ board_text ∷ []

-- what a message 2 says of the server (FIBS CLIP specification 1008)
abbrev pub flags_of : MessageValue → Flags
flags_of m = record { automove = automove m; greedy = greedy m }

-- message 1 and message 2
abbrev pub message_says : MessageValue → Says BoardFields MessageValue
message_says m =
    if nat_eq m.number 1 then welcomes else (if nat_eq m.number 2 then informs m else says_nothing)

-- what a line says to a client (FIBS CLIP specification 1008; FIBS board style 3)
abbrev pub says : ReadingValue → Says BoardFields MessageValue
says (numbered_line m) = message_says m
says (board_line b) = shows b
says (text_line text) = says_nothing
says (malformed_line number k f) = says_nothing

-- only the two commands that turn something off need that it is on
abbrev pub turns_off : PlainValue → Option (Flags → Bool)
turns_off automove_off = Some (λ f. f.automove)
turns_off greedy_off = Some (λ f. f.greedy)
turns_off p = None

-- A standing order rolls if the player may not double (field 39) and it is the phase before the roll.
abbrev pub fibs : Game
fibs = record {
  Board = BoardFields;
  Decision = DecisionValue;
  like = same_game;
  good = good;
  decides = λ b. decides (phase_of b);
  allows = allows;
  effect = λ b d d1 d2. effect_of b d (d1 ∷ d2 ∷ []);
  is_die = is_die;
  Good = IsGood;
  Legal = IsAllowed;
  Differ = Differ;
  Leads = λ b d d1 d2 b'. Effect b d (d1 ∷ d2 ∷ []) b';
  roll = roll;
  rolls = λ b. int_eq (field_of b 39) (pos 0) && is_to_roll (phase_of b);
  Line = ReadLine;
  Reading = ReadingValue;
  lines = lines_of;
  reading = line_reading;
  Info = MessageValue;
  says = says;
  flags = flags_of;
  style = style_text;
  initial = initial_commands;
  spelling = spelling;
  command = λ b d. command_of (direction_of b) d;
  decision_in = λ b text. read_command (direction_of b) text;
  Plain = PlainValue;
  Fault = PlainRefusal;
  plain = plain_of;
  turns_off = turns_off;
  offline = P.Offline;
  not_on = P.NotOn;
  plain_fault = λ p. option_map P.Fault (plain_fault_of p);
}
