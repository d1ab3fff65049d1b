-- The lines of a script are read one after another.
use Rattle.std.proofs.Common.{◌≡◌, ◌↔◌, ℕ, ◌+◌, true, List, [], ◌∷◌, ◌++◌, length, Option, Some, None, option_map, refl, ap, sym, ◌∙◌, subst, arith, append_assoc, length-append}
use Rattle.std.specs.Option.{is_some}
use Rattle.fibs_fields.specs.Board.{BoardFields, BoardText}
use Rattle.fibs_model.specs.EventOf.{event_of}
use Rattle.fibs_model.specs.Events.{Event}
use Rattle.fibs_model.specs.declared.event.Event.{Event as ProgramEvent}
use Rattle.fibs_replay.specs.EventLines.{SaysEvent}
use Rattle.fibs_replay.specs.Scripts.{SayEvents, IsNoBoard, FirstUnreadable, no_line, no_board, no_event, ReadsScript, ReadsEvents}

-- what `read_event` says of a line
abbrev pub ReadsLine : Option ProgramEvent → List ℕ → Type 0
ReadsLine read line = (e : Event) → (option_map event_of read ≡ Some e) ↔ SaysEvent line e

-- lines that say events, and one more
pub say_more : (lines : List (List ℕ)) (events : List Event) (line : List ℕ) (e : Event) → SayEvents lines events
    → SaysEvent line e
    → SayEvents (lines ++ line ∷ []) (events ++ e ∷ [])
say_more [] [] line e h said = (said, tt)
say_more [] (f ∷ events) line e h said = absurd h
say_more (l ∷ lines) [] line e h said = absurd h
say_more (l ∷ lines) (f ∷ events) line e h said = (h.0, say_more lines events line e h.1 said)

-- a line that was read says an event
pub line_said : (read : Option ProgramEvent) (line : List ℕ) → is_some read ≡ true → ReadsLine read line → (e : Event)
    × SaysEvent line e
line_said None line some exact = absurd cc
line_said (Some event) line some exact = (event_of event, (exact (event_of event)).0 refl)

-- what is known of the lines before the one in hand
abbrev pub Read : (all rest : List (List ℕ)) → ℕ → Type 0
Read all rest number = (before : List (List ℕ)) × (events : List Event) × (all ≡ before ++ rest)
    × SayEvents before events × (number ≡ length before + 2)

-- one line more is read
pub read_more : (all lines rest : List (List ℕ)) (line : List ℕ) (number : ℕ) (read : Option ProgramEvent)
    → Read all lines number → lines ≡ line ∷ rest
    → is_some read ≡ true → ReadsLine read line → Read all rest (number + 1)
read_more all lines rest line number read so_far is some exact =
    let said = line_said read line some exact in
    let before = so_far.0 in
    let long : length (before ++ line ∷ []) ≡ length before + 1 = length-append before (line ∷ []) in
    let count = so_far.4 in (
      before ++ line ∷ [],
      so_far.1 ++ said.0 ∷ [],
      so_far.2 ∙ ap (λ l. before ++ l) is ∙ sym (append_assoc before (line ∷ []) rest),
      say_more before so_far.1 line said.0 so_far.3 said.1,
      omega arith,
    )

-- the lines of a script that has none
pub none_there : (lines : List (List ℕ)) → lines ≡ [] → FirstUnreadable lines 1
none_there lines is = subst (λ l. FirstUnreadable l 1) (sym is) no_line

-- of one whose first line says no board
pub no_board_there : (lines rest : List (List ℕ)) (line : List ℕ) → lines ≡ line ∷ rest → IsNoBoard line
    → FirstUnreadable lines 1
no_board_there lines rest line is none = subst (λ l. FirstUnreadable l 1) (sym is) (no_board none)

-- of one whose first line says one
pub board_there : (found : Option ℕ) (lines rest : List (List ℕ)) (line : List ℕ) (b : BoardFields)
    → lines ≡ line ∷ rest → BoardText b line → ReadsEvents found rest → ReadsScript found lines
board_there found lines rest line b is said others = subst (ReadsScript found) (sym is) (go found others)
  where
    go : (found : Option ℕ) → ReadsEvents found rest → ReadsScript found (line ∷ rest)
    go None h = (b, h.0, (said, h.1))
    go (Some number) h =
        let P : ℕ → List (List ℕ) → Type 0 = λ n l. FirstUnreadable (line ∷ l) n in
        subst (λ n. P n rest) (sym h.7) (subst (P (length h.0 + 2)) (sym h.4) (no_event b h.0 h.1 h.2 h.3 said h.5 h.6))
