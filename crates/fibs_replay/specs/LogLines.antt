-- The line that is printed for each entry of the log (the project's own format). Boards are printed as they are
-- spelled, commands in the numbers of their own board.
use Rattle.std.specs.Prelude.{◌++◌, ℕ, Bool, List, ◌∷◌, [], codes, decimal, Option, Some, None, flat_map, if◌then◌else◌}
use Rattle.fibs_fields.specs.Board.{spelling}
use Rattle.fibs_game.specs.declared.refusal.Refusal.{Refusal}
use Rattle.fibs_session.specs.History.Asked.{asked_text}
use Rattle.fibs_session.specs.History.Log.{Entry, Opened, LoggedIn, Welcomed, Informed, Shown, Clicked, Sent, Took, Undone, Lost, Ordered, Withdrawn}
use Rattle.fibs_session.specs.History.Refusals.{refusal_name}
use Rattle.fibs_session.specs.History.Words.{Ask}
use Rattle.fibs_engine.specs.Printing.{line_bytes}

-- a word, and the number of a connection
abbrev pub of_connection : List ℕ → ℕ → List ℕ
of_connection word c = word ++ 32 ∷ decimal c

-- 1 for yes
abbrev pub flag_text : Bool → List ℕ
flag_text flag = if flag then codes "1" else codes "0"

-- a board, and the command of what was decided on it
abbrev pub ask_text : Ask → List ℕ
ask_text ask = spelling ask.0 ++ 32 ∷ asked_text ask

-- the answer to a click, which is None for yes
abbrev pub answer_text : Option Refusal → List ℕ
answer_text None = codes "ok"
answer_text (Some why) = refusal_name why

-- what was unconfirmed, after a space
abbrev pub unconfirmed_text : Option Ask → List ℕ
unconfirmed_text None = []
unconfirmed_text (Some ask) = 32 ∷ ask_text ask

-- the line of an entry of the log
unfoldable pub entry_line : Entry → List ℕ
entry_line (Opened c) = of_connection (codes "opened") c
entry_line (LoggedIn c) = of_connection (codes "loggedin") c
entry_line (Welcomed c) = of_connection (codes "welcomed") c
entry_line (Informed c flags) =
    of_connection (codes "informed") c ++ (32 ∷ flag_text flags.automove ++ 32 ∷ flag_text flags.greedy)
entry_line (Shown c b) = of_connection (codes "shown") c ++ 32 ∷ spelling b
entry_line (Clicked c d answer) = of_connection (codes "clicked") c ++ 32 ∷ answer_text answer
entry_line (Sent c b d) = of_connection (codes "sent") c ++ 32 ∷ ask_text (b, d)
entry_line (Took c b d) = of_connection (codes "took") c ++ 32 ∷ ask_text (b, d)
entry_line (Undone c b d) = of_connection (codes "undone") c ++ 32 ∷ ask_text (b, d)
entry_line (Lost c unconfirmed) = of_connection (codes "lost") c ++ unconfirmed_text unconfirmed
entry_line (Ordered c) = of_connection (codes "ordered") c
entry_line (Withdrawn c) = of_connection (codes "withdrawn") c

-- the lines of a log, each ended by a byte 10
abbrev pub log_text : List Entry → List ℕ
log_text = flat_map (λ entry. line_bytes (entry_line entry))
