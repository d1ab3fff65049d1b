-- Sessions and their answers as values.
use Rattle.std.specs.Prelude.{ℕ, Bool, List, [], ◌∷◌, map, Option, None, Some, Result, Ok, Err, option_map}
use Rattle.fibs_lines.specs.Lines.{ReadLine, value_of}
use Rattle.fibs_messages.specs.Line.{ReadingValue, reading_of}
use Rattle.fibs_fields.specs.StoredBoard.{fields_of}
use Rattle.fibs_position.specs.DecisionValue.{decision_of}
use Rattle.fibs_position.specs.GameOf.{game_of}
use Rattle.fibs_commands.specs.TextOf.{text_of}
use Rattle.arrayvec.specs.ArrayString.{ArrayString as CommandText}
use Rattle.fibs_session.specs.declared.taken.Outstanding.{Outstanding}
use Rattle.fibs_session.specs.declared.taken.Taken.{Taken}
use Rattle.fibs_session.specs.declared.session.ServerFlags.{ServerFlags}
use Rattle.fibs_session.specs.declared.session.Session.{Session}
use Rattle.fibs_session.specs.History.Log.{Flags}
use Rattle.fibs_session.specs.History.Words.{Ask}
use Rattle.fibs_commands.specs.LoginOf.{login_of}
use Rattle.fibs_session.specs.Calls.SessionValue.{SessionValue}

abbrev pub ask_of : Outstanding → Ask
ask_of o = (fields_of o.board, decision_of o.decision)

abbrev pub server_flags : ServerFlags → Flags
server_flags f = record { automove = f.automove; greedy = f.greedy }

abbrev pub texts_of : List CommandText → List (List ℕ)
texts_of = map text_of

-- the fields
abbrev pub session_of : Session → SessionValue
session_of s = record {
  login = login_of s.login;
  online = s.online;
  welcomed = s.welcomed;
  flags = option_map server_flags s.flags;
  automove_sent = s.automove_sent;
  greedy_sent = s.greedy_sent;
  shown = option_map game_of s.shown;
  waiting = option_map ask_of s.waiting;
  ordered = s.ordered;
}

-- what a call hands out: a command, or nothing if it refuses
abbrev pub handed : {E : Type 0} → Result CommandText E → List (List ℕ)
handed (Ok command) = text_of command ∷ []
handed (Err why) = []

-- why there is no command, if there is none
abbrev pub refusal_in : {E : Type 0} → Result CommandText E → Option E
refusal_in (Ok command) = None
refusal_in (Err why) = Some why

-- an answer to a line, with no address in it
pub record TakenValue : Type 0 where
  pub line : ReadLine
  pub reading : ReadingValue
  pub send : List (List ℕ)
  pub confirmed : Option Ask
  pub rolled : Bool

-- the value of an answer to a line
abbrev pub taken_of : Taken → TakenValue
taken_of t = record {
  line = value_of t.line;
  reading = reading_of t.reading;
  send = texts_of t.send.items;
  confirmed = option_map ask_of t.confirmed;
  rolled = t.rolled;
}
