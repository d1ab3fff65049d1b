-- What is done for a line of the server.
use Rattle.std.specs.Prelude.{◌++◌, ℕ, Bool, List, [], ◌∷◌, Option, Some, None, if◌then◌else◌}
use Rattle.fibs_lines.specs.Lines.{ReadLine}
use Rattle.fibs_messages.specs.Message.{MessageValue}
use Rattle.fibs_messages.specs.Line.{ReadingValue, numbered_line, board_line, text_line, malformed_line}
use Rattle.fibs_position.specs.Phases.{phase_of}
use Rattle.fibs_position.specs.GoodBoard.{good}
use Rattle.fibs_session.specs.History.Log.{Entry}
use Rattle.fibs_session.specs.History.Words.{Ask, open_now}
use Rattle.fibs_session.specs.History.Hearing.{heard, line_reading}
use Rattle.fibs_session.specs.History.Machine.{Talk, is_online, gained, wire_of}
use Rattle.fibs_session.specs.Calls.SessionOf.{TakenValue}
use Rattle.fibs_connect.specs.Told.{SaidValue, heard_said, phase_said, confirmed_said, rolled_said}
use Rattle.fibs_connect.specs.Turns.Acts.{Act}

-- after a good board its phase is reported
abbrev pub phase_told : ReadingValue → List SaidValue
phase_told (numbered_line m) = []
phase_told (board_line b) = if good b then phase_said (phase_of b) ∷ [] else []
phase_told (text_line text) = []
phase_told (malformed_line number k f) = []

-- if it confirms a decision, that is reported
abbrev pub confirmed_told : Option Ask → List SaidValue
confirmed_told None = []
confirmed_told (Some ask) = confirmed_said ask ∷ []

-- if it makes a standing order due, it is reported that `roll` was sent
abbrev pub rolled_told : Bool → List SaidValue
rolled_told rolled = if rolled then rolled_said ∷ [] else []

-- the directory is given each message
abbrev pub messages_in : ReadingValue → List MessageValue
messages_in (numbered_line m) = m ∷ []
messages_in (board_line b) = []
messages_in (text_line text) = []
messages_in (malformed_line number k f) = []

-- a line, its reading, the commands that it calls for, the decision that it confirms, and whether it makes a standing
-- order due
abbrev pub heard_act : ReadLine → ReadingValue → List (List ℕ) → Option Ask → Bool → Act
heard_act line r send confirmed rolled = record {
  writes = wire_of send;
  tells = heard_said line r ∷ (phase_told r ++ (confirmed_told confirmed ++ rolled_told rolled));
  notes = messages_in r;
}

-- the same for what the client has taken
abbrev pub taken_act : TakenValue → Act
taken_act t = heard_act t.line t.reading t.send t.confirmed t.rolled

-- what a line calls for, by the history before it
abbrev pub line_act : List Entry → ReadLine → Act
line_act log line =
    let h = heard (open_now log) log (line_reading line) in
    heard_act line (line_reading line) h.send h.confirmed h.rolled

-- what each of several lines calls for, by the history before it
abbrev pub line_acts : List Entry → List ReadLine → List Act
line_acts log [] = []
line_acts log (line ∷ lines) =
    line_act log line ∷ line_acts (log ++ (heard (open_now log) log (line_reading line)).entries) lines

-- the lines that more bytes of the open connection give
abbrev pub piece_acts : Talk → List ℕ → List Act
piece_acts t bytes = if is_online t then line_acts t.log (gained t.stream bytes) else []
