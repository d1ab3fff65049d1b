-- The object of each entry of the log (the project's own format).
use Rattle.std.specs.Prelude.{◌≡◌, ◌++◌, ℕ, List, [], ◌∷◌, codes, Option, Some, None}
use Rattle.fibs_fields.specs.Board.{BoardFields, spelling}
use Rattle.fibs_game.specs.declared.refusal.Refusal.{Refusal}
use Rattle.fibs_messages.specs.Line.{board_line}
use Rattle.fibs_session.specs.History.Asked.{asked_text}
use Rattle.fibs_session.specs.History.Log.{Entry, Opened, LoggedIn, Welcomed, Informed, Shown, Clicked, Sent, Took, Undone, Lost, Ordered, Withdrawn}
use Rattle.fibs_session.specs.History.Refusals.{refusal_name}
use Rattle.fibs_session.specs.History.Words.{Ask}
use Rattle.fibs_replay.specs.LogLines.{entry_line}
use Rattle.fibs_json.specs.Json.{Json, string, whole, truth, null, member, more_member, more_value}
use Rattle.fibs_json.specs.Lines.{ReadObject, object_with}

-- the word with which an entry's line begins
abbrev pub entry_kind : Entry → List ℕ
entry_kind (Opened c) = codes "opened"
entry_kind (LoggedIn c) = codes "loggedin"
entry_kind (Welcomed c) = codes "welcomed"
entry_kind (Informed c flags) = codes "informed"
entry_kind (Shown c b) = codes "shown"
entry_kind (Clicked c d answer) = codes "clicked"
entry_kind (Sent c b d) = codes "sent"
entry_kind (Took c b d) = codes "took"
entry_kind (Undone c b d) = codes "undone"
entry_kind (Lost c unconfirmed) = codes "lost"
entry_kind (Ordered c) = codes "ordered"
entry_kind (Withdrawn c) = codes "withdrawn"

-- its connection
abbrev pub entry_connection : Entry → ℕ
entry_connection (Opened c) = c
entry_connection (LoggedIn c) = c
entry_connection (Welcomed c) = c
entry_connection (Informed c flags) = c
entry_connection (Shown c b) = c
entry_connection (Clicked c d answer) = c
entry_connection (Sent c b d) = c
entry_connection (Took c b d) = c
entry_connection (Undone c b d) = c
entry_connection (Lost c unconfirmed) = c
entry_connection (Ordered c) = c
entry_connection (Withdrawn c) = c

-- why a click was refused
abbrev pub answer_json : Option Refusal → Json
answer_json None = null
answer_json (Some why) = string (refusal_name why)

-- a board, as the object that `fibs show --json` prints for its line
abbrev pub BoardMember : BoardFields → List ℕ → Type 0
BoardMember b more =
    (board : List ℕ) × ReadObject (spelling b) (board_line b) board × (more ≡ more_value (codes "board") board)

-- what was decided: its command, and the board
abbrev pub AskMembers : Ask → List ℕ → Type 0
AskMembers ask more = (board : List ℕ) × BoardMember ask.0 board
    × (more ≡ more_member (member (codes "command") (string (asked_text ask))) ++ board)

-- the members that follow the connection
abbrev pub EntryMembers : Entry → List ℕ → Type 0
EntryMembers (Opened c) more = more ≡ []
EntryMembers (LoggedIn c) more = more ≡ []
EntryMembers (Welcomed c) more = more ≡ []
EntryMembers (Informed c flags) more =
    more ≡ more_member (member (codes "automove") (truth flags.automove))
    ++ more_member (member (codes "greedy") (truth flags.greedy))
EntryMembers (Shown c b) more = BoardMember b more
EntryMembers (Clicked c d answer) more = more ≡ more_member (member (codes "refusal") (answer_json answer))
EntryMembers (Sent c b d) more = AskMembers (b, d) more
EntryMembers (Took c b d) more = AskMembers (b, d) more
EntryMembers (Undone c b d) more = AskMembers (b, d) more
EntryMembers (Lost c None) more =
    more ≡ more_member (member (codes "command") null) ++ more_member (member (codes "board") null)
EntryMembers (Lost c (Some ask)) more = AskMembers ask more
EntryMembers (Ordered c) more = more ≡ []
EntryMembers (Withdrawn c) more = more ≡ []

-- the object of an entry: its word, the line that `fibs replay` prints for it, its connection, and the rest
abbrev pub EntryObject : Entry → List ℕ → Type 0
EntryObject e text = (more : List ℕ) × EntryMembers e more
    × (text ≡ object_with (entry_kind e) (entry_line e)
    (more_member (member (codes "connection") (whole (entry_connection e))) ++ more))

-- the objects of a log, each ended by a byte 10
abbrev pub LogObjects : List Entry → List ℕ → Type 0
LogObjects [] text = text ≡ []
LogObjects (e ∷ log) text =
    (first rest : List ℕ) × EntryObject e first × LogObjects log rest × (text ≡ first ++ (10 ∷ rest))

-- an object tells the line of the entry for which it is printed
abbrev pub EntriesTellLines : Type 0
EntriesTellLines = (e f : Entry) (text : List ℕ) → EntryObject e text → EntryObject f text → entry_line e ≡ entry_line f
