-- What is told of a login that the server refuses, by its question, once more (the project's own).
use Rattle.std.specs.Prelude.{◌≡◌, ◌&&◌, ◌||◌, ℕ, Bool, false, not, List, ◌++◌, if◌then◌else◌, Option, Some, None}
use Rattle.std.specs.List.{list_any}
use Rattle.fibs_lines.specs.Lines.{is_line_end}
use Rattle.fibs_lines.specs.Questions.{HasCome, asks_again, nothing_came}
use Rattle.fibs_events.specs.declared.asking.Asking.{Asking}
use Rattle.fibs_events.specs.declared.event.Event.{Event}
use Rattle.fibs_events.specs.declared.event.Event.TheVariants as E

-- these bytes of a connection were heard
abbrev pub HasHeard : Asking → List ℕ → Type 0
HasHeard a s = HasCome a.questions s

-- the line that has not ended was told of before, and these bytes end no line
abbrev pub was_told : Asking → List ℕ → Bool
was_told a bytes = a.is_told && not (list_any is_line_end bytes)

-- the refusal of a login, if the server asks once more and that was not told
abbrev pub refused_if : Bool → Bool → Option Event
refused_if again told = if again && not told then Some E.LoginRefused else None

-- what is told when bytes come after others: the refusal of a login, once of each question
abbrev pub refused_after : Asking → List ℕ → List ℕ → Option Event
refused_after a s bytes = refused_if (asks_again (s ++ bytes)) (was_told a bytes)

-- bytes are heard, after whatever was heard before
pub record HearsMore (old new : Asking) (bytes : List ℕ) (told : Option Event) : Type 0 where
  pub heard : (s : List ℕ) → HasHeard old s → HasHeard new (s ++ bytes)
  pub tells : (s : List ℕ) → HasHeard old s → told ≡ refused_after old s bytes
  pub once : (s : List ℕ) → HasHeard old s → new.is_told ≡ (was_told old bytes || asks_again (s ++ bytes))

-- nothing was sent on a connection
abbrev pub not_asked : Asking
not_asked = record { questions = nothing_came; is_told = false }
