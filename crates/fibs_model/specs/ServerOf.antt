-- A server of the program as a value, and what its calls do.
use Rattle.std.specs.Prelude.{ℕ, Bool, true, false, List, [], ◌∷◌, slice_index}
use Rattle.fibs_fields.specs.Board.{BoardFields}
use Rattle.fibs_position.specs.DecisionValue.{decision_of}
use Rattle.fibs_session.specs.History.Log as L
use Rattle.fibs_model.specs.Server as V
use Rattle.fibs_model.specs.Server.{ServerValue}
use Rattle.fibs_model.specs.declared.server.Served.{Served}
use Rattle.fibs_model.specs.declared.server.Served.TheVariants as S

-- a line with its dice
abbrev pub taken_line : ℕ → Bool → List ℕ → List ℕ → V.TakenLine
taken_line conn first text dice = record {
  conn = conn;
  first = first;
  text = text;
  die = slice_index dice 0;
  other_die = slice_index dice 1;
}

-- an answer, with the board after it
abbrev pub served_of : Served → BoardFields → V.Served
served_of S.Stale b = V.Stale
served_of S.LoggedIn b = V.LoggedIn
served_of (S.Took d) b = V.Took (decision_of d) b
served_of (S.Undone d) b = V.Undone (decision_of d)
served_of S.Answered b = V.Answered

-- the server after a line of c that is answered so
abbrev pub after_line : ServerValue → ℕ → V.Served → ServerValue
after_line s c V.Stale = s
after_line s c V.LoggedIn = record { board = s.board; logged_in = c }
after_line s c (V.Took d b) = record { board = b; logged_in = s.logged_in }
after_line s c (V.Undone d) = s
after_line s c V.Answered = s

-- what is noted of a line that the server took, with its board before
abbrev pub served_entries : ℕ → BoardFields → V.Served → List L.Entry
served_entries c before V.Stale = []
served_entries c before V.LoggedIn = L.LoggedIn c ∷ []
served_entries c before (V.Took d b) = L.Took c before d ∷ []
served_entries c before (V.Undone d) = L.Undone c before d ∷ []
served_entries c before V.Answered = []

-- the line is answered by the board
abbrev pub is_answered : V.Served → Bool
is_answered V.Stale = false
is_answered V.LoggedIn = false
is_answered (V.Took d b) = true
is_answered (V.Undone d) = true
is_answered V.Answered = true
