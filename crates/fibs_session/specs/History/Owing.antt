-- How many bytes of commands, and how many entries, the lines of a connection may still make a client give (the
-- project's own).
use Rattle.std.specs.Prelude.{ℕ, ◌+◌, ◌*◌, ◌≤◌, List, length, if◌then◌else◌}
use Rattle.fibs_session.specs.History.Log.{Entry}
use Rattle.fibs_session.specs.History.Machine.{Talk, Piece, step, wire_of, gained, is_online, ordered_now}
use Rattle.fibs_session.specs.History.Words.{is_empty, open_now, welcomed, informed}

-- before message 1, `set boardstyle 3`; before message 2, both toggles and `board`: each with its line end
abbrev pub owed_on : ℕ → List Entry → ℕ
owed_on c log = (if is_empty (welcomed c log) then 18 else 0) + (if is_empty (informed c log) then 44 else 0)

-- while a standing order is in force, `roll` with its line end at each of the lines to come
abbrev pub rolls_owed : Talk → ℕ → ℕ
rolls_owed t lines = if ordered_now t then 6 * lines else 0

-- the bytes, with so many lines to come
abbrev pub owed : Talk → ℕ → ℕ
owed t lines = owed_on (open_now t.log) t.log + rolls_owed t lines

-- the entries: one at each line, and while a standing order is in force one more
abbrev pub entries_owed : Talk → ℕ → ℕ
entries_owed t lines = if ordered_now t then 2 * lines else lines

-- how many lines a piece ends
abbrev pub lines_in : Talk → List ℕ → ℕ
lines_in t bytes = if is_online t then length (gained t.stream bytes) else 0

-- what a piece makes the client hand out is taken from what is owed: on a connection 62 bytes at most if no standing
-- order is given
abbrev pub PiecesTakeFromWhatIsOwed : Type 0
PiecesTakeFromWhatIsOwed =
    (t : Talk) (bytes : List ℕ) (later : ℕ)
    → length (wire_of (step t (Piece bytes)).send) + owed (step t (Piece bytes)).talk later
    ≤ owed t (lines_in t bytes + later)

-- the entries that it makes the client note are taken from what is owed, too
abbrev pub PiecesTakeFromTheEntriesOwed : Type 0
PiecesTakeFromTheEntriesOwed =
    (t : Talk) (bytes : List ℕ) (later : ℕ)
    → length (step t (Piece bytes)).talk.log + entries_owed (step t (Piece bytes)).talk later
    ≤ length t.log + entries_owed t (lines_in t bytes + later)
