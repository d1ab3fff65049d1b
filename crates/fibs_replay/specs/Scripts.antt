-- A script: its lines, what they say, and the first of them that is unreadable (the project's own format).
use Rattle.std.specs.Prelude.{◌≡◌, ◌+◌, ℕ, List, [], ◌∷◌, ◌++◌, length, Option, Some, None}
use Rattle.std.specs.List.{AllZip}
use Rattle.std.specs.Str.Lines.{lines}
use Rattle.fibs_fields.specs.Board.{BoardFields, BoardText}
use Rattle.fibs_model.specs.Events.{Event}
use Rattle.fibs_replay.specs.EventLines.{SaysEvent}

-- how many bytes a script may have
abbrev pub script_limit : ℕ
script_limit = 1048576

-- The lines of a script are the parts between its bytes 10. One byte 13 directly before a byte 10 goes; after the last
-- byte 10 there is a line only if there are bytes, and it keeps all of them.
unfoldable pub script_lines : List ℕ → List (List ℕ)
script_lines script = lines script

-- lines say events, one each
abbrev pub SayEvents : List (List ℕ) → List Event → Type 0
SayEvents = AllZip SaysEvent

-- the first line says a board, and the others say events, one each
abbrev pub SayScript : List (List ℕ) → BoardFields → List Event → Type 0
SayScript [] b events = ⊥
SayScript (line ∷ lines) b events = BoardText b line × SayEvents lines events

-- a line that says no board
abbrev pub IsNoBoard : List ℕ → Type 0
IsNoBoard line = (b : BoardFields) → ¬ BoardText b line

-- a line that says no event
abbrev pub IsNoEvent : List ℕ → Type 0
IsNoEvent line = (e : Event) → ¬ SaysEvent line e

-- the number of the first unreadable line: 1 if there is no line, or if the first says no board; else that of a line
-- which says no event, after lines that do
pub data FirstUnreadable : List (List ℕ) → ℕ → Type 0 where
  no_line : FirstUnreadable [] 1
  no_board : {line : List ℕ} {lines : List (List ℕ)} → IsNoBoard line → FirstUnreadable (line ∷ lines) 1
  no_event : {line : List ℕ} (b : BoardFields) (before : List (List ℕ)) (events : List Event) (bad : List ℕ)
      (later : List (List ℕ)) → BoardText b line → SayEvents before events → IsNoEvent bad
      → FirstUnreadable (line ∷ (before ++ bad ∷ later)) (length before + 2)

-- a script's lines are all readable, or this is the first that is not
abbrev pub ReadsScript : Option ℕ → List (List ℕ) → Type 0
ReadsScript None lines = (b : BoardFields) × (events : List Event) × SayScript lines b events
ReadsScript (Some number) lines = FirstUnreadable lines number

-- all lines after the first say events, or this is the number of the first line that does not
abbrev pub ReadsEvents : Option ℕ → List (List ℕ) → Type 0
ReadsEvents None lines = (events : List Event) × SayEvents lines events
ReadsEvents (Some number) lines =
    (before : List (List ℕ)) × (events : List Event) × (bad : List ℕ) × (later : List (List ℕ))
    × (lines ≡ before ++ bad ∷ later) × SayEvents before events × IsNoEvent bad × (number ≡ length before + 2)
