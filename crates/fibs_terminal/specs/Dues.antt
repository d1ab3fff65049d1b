-- Lines that go as if the user had typed them: which of them goes first, and from where each portion of what is read
-- comes (the project's own).
use Rattle.std.specs.Prelude.{◌≡◌, ◌≢◌, ◌<◌, ◌≤◌, ◌&&◌, ◌||◌, ◌-◌, ◌==◌, ℕ, Bool, true, false, nat_le, length, List, [], codes, Option, Some, None, is_some, slice_index, if◌then◌else◌}
use Rattle.std.specs.Io.KnownBytes.{Consumes, IsAtEnd}
use Rattle.fibs_terminal.specs.Fixing.{line_bytes}
use Rattle.fibs_terminal.specs.declared.fixing.FixLine.{FixLine}
use Rattle.fibs_terminal.specs.declared.ordering.Due.{Due}
use Rattle.fibs_terminal.specs.declared.ordering.Due.TheVariants as D
use Rattle.fibs_terminal.specs.declared.ordering.Origin.{Origin}
use Rattle.fibs_terminal.specs.declared.ordering.Origin.TheVariants as O
use Rattle.fibs_terminal.specs.declared.ordering.Pending.{Pending}

-- all that goes so, each line with its end: none of them decides
abbrev pub due_bytes : Due → List ℕ
due_bytes D.End = codes "quit\n"
due_bytes D.Open = codes "open\n"
due_bytes D.Order = codes "order roll\n"
due_bytes D.Board = codes "board\n"
due_bytes (D.Fix line) = line_bytes line

-- a line is due, and there is room for all of it
abbrev pub fits : Due → Bool → ℕ → Bool
fits due is_due room = is_due && nat_le (length (due_bytes due)) room

-- the line of `fix`, if one is due
abbrev pub due_fix : Option FixLine → ℕ → Option Due
due_fix None room = None
due_fix (Some line) room = if fits (D.Fix line) true room then Some (D.Fix line) else None

-- which goes first: the end, then `open`, the order, `board`, and a line of `fix`
abbrev pub first_due : Pending → ℕ → Option Due
first_due p room =
    if fits D.End p.ends room then Some D.End else
    if fits D.Open p.opens room then Some D.Open else
    if fits D.Order p.order room then Some D.Order else
    if fits D.Board p.board room then Some D.Board else due_fix p.fix room

-- whether a line is due
abbrev pub is_any : Pending → Bool
is_any p = p.ends || (p.opens || (p.order || (p.board || is_some p.fix)))

-- what is due once a line has gone: all else; the end stays
abbrev pub without : Due → Pending → Pending
without D.End p = p
without D.Open p = record p { opens = false }
without D.Order p = record p { order = false }
without D.Board p = record p { board = false }
without (D.Fix line) p = record p { fix = None }

-- what is due once the server was dialed: the order, if it is asked for and there is a connection, and all else as
-- before
abbrev pub dialed : Bool → Bool → Pending → Pending
dialed is_asked is_made p = record p { order = is_asked && is_made }

-- what goes at the end of what is typed: a line that was begun is ended before it
abbrev pub end_bytes : Bool → List ℕ
end_bytes true = codes "quit\n"
end_bytes false = codes "\nquit\n"

-- whether a line has ended, once these bytes of what is typed were read
abbrev pub is_ended : Bool → List ℕ → Bool
is_ended before [] = before
is_ended before bytes = slice_index bytes (length bytes - 1) == 10

-- what is typed is read, or its end goes: no line that is due goes before it
abbrev pub IsNoneFirst : Pending → Bool → ℕ → Type 0
IsNoneFirst p before room = before ≡ true → first_due p room ≡ None

-- A portion of what is read is from there, and has these bytes. `p` is what is due, `quits` whether the end goes as
-- `quit`, `before` and `after` whether a line has ended, `left` and `rest` what is left of the typed bytes, if that is
-- known, and `room` how many bytes there is room for.
-- Between two lines alone a line goes that is due, the first one, whole; nothing that is typed is read.
-- The end goes once nothing typed is left, if it is to and has room.
-- What is typed goes as it is, with no bytes only at its end or without room.
abbrev pub IsFrom : Pending → Bool → Origin → Bool → Bool → Option (List ℕ) → Option (List ℕ) → ℕ → List ℕ → Type 0
IsFrom p quits (O.Due due) before after left rest room bytes = (before ≡ true) × (first_due p room ≡ Some due)
    × (bytes ≡ due_bytes due) × (after ≡ true) × (rest ≡ left)
IsFrom p quits O.End before after left rest room bytes = IsNoneFirst p before room × (quits ≡ true)
    × Consumes left rest [] × IsAtEnd rest × (bytes ≡ end_bytes before) × (after ≡ true)
IsFrom p quits O.Typed before after left rest room bytes = IsNoneFirst p before room
    × Consumes left rest bytes × (bytes ≡ [] → 0 < room → IsAtEnd rest)
    × (quits ≡ true → length (end_bytes before) ≤ room → bytes ≢ []) × (after ≡ is_ended before bytes)
