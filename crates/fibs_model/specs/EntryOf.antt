-- Entries of the program as values.
use Rattle.std.specs.Prelude.{ℕ, Bool, List, [], ◌∷◌, Option, Some, None, option_map}
use Rattle.std.specs.Result.{result_err}
use Rattle.fibs_fields.specs.StoredBoard.{fields_of}
use Rattle.fibs_messages.specs.Line.{ReadingValue, board_line}
use Rattle.fibs_position.specs.DecisionValue.{decision_of, roll}
use Rattle.fibs_session.specs.History.Log as V
use Rattle.fibs_session.specs.History.Words.{one_if}
use Rattle.fibs_session.specs.Calls.SessionOf.{ask_of}
use Rattle.fibs_model.specs.declared.entry.Entry.{Entry}
use Rattle.fibs_model.specs.declared.entry.Entry.TheVariants as E

-- what was noted, in the words of the history
abbrev pub entry_of : Entry → V.Entry
entry_of (E.Opened conn) = V.Opened conn
entry_of (E.LoggedIn conn) = V.LoggedIn conn
entry_of (E.Welcomed conn) = V.Welcomed conn
entry_of (E.Informed conn automove greedy) = V.Informed conn (record { automove = automove; greedy = greedy })
entry_of (E.Shown conn board) = V.Shown conn (fields_of board)
entry_of (E.Clicked conn decision answer) = V.Clicked conn (decision_of decision) (result_err answer)
entry_of (E.Sent conn board decision) = V.Sent conn (fields_of board) (decision_of decision)
entry_of (E.Took conn board decision) = V.Took conn (fields_of board) (decision_of decision)
entry_of (E.Undone conn board decision) = V.Undone conn (fields_of board) (decision_of decision)
entry_of (E.Lost conn unconfirmed) = V.Lost conn (option_map ask_of unconfirmed)
entry_of (E.Ordered conn) = V.Ordered conn
entry_of (E.Withdrawn conn) = V.Withdrawn conn

-- what was noted, if it was one entry or none
abbrev pub entries_of : Option Entry → List V.Entry
entries_of None = []
entries_of (Some e) = entry_of e ∷ []

-- the roll of a standing order, if one rolled at a line: it is sent on the line's board
abbrev pub roll_entries : ℕ → ReadingValue → Bool → List V.Entry
roll_entries c (board_line b) rolled = one_if rolled (V.Sent c b roll)
roll_entries c reading rolled = []
