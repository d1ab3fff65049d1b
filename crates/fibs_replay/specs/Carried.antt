-- What a run of a script gave to its carrier.
use Rattle.std.specs.Prelude.{◌≡◌, ◌++◌, ◌⊎◌, ℕ, List, [], length, Option}
use Rattle.std.specs.Io.KnownBytes.{Appends, Consumes, IsAtEnd, Keeps}
use Rattle.fibs_fields.specs.Board.{BoardFields}
use Rattle.fibs_model.specs.Carrying.{Crossing}
use Rattle.fibs_model.specs.Crossings.{crossings}
use Rattle.fibs_model.specs.Events.{Event}
use Rattle.fibs_model.specs.Runs.{MayBe}
use Rattle.fibs_game.specs.declared.world_refusal.WorldRefusal.{WorldRefusal}
use Rattle.fibs_replay.specs.Output.{script_login, log_after, unread_text, end_text, refused_text}
use Rattle.fibs_replay.specs.Scripts.{script_lines, SayScript}

-- what may follow the log after so many events: nothing, if memory ran out; or the last line
abbrev pub IsLast : ℕ → List ℕ → Type 0
IsLast done rest = (rest ≡ []) ⊎ (rest ≡ end_text done) ⊎ ((why : WorldRefusal) × (rest ≡ refused_text done why))

-- what crosses at some first events of a script, which are accepted, and nothing else; and a writer gained the lines of
-- the log after those events, and its last line for so many
abbrev pub CarriedFor : {A : Type 0} → (A → List Crossing → A → Type 0) → List ℕ → Option (List ℕ) → Option (List ℕ)
    → A → A → Type 0
CarriedFor Carries script held now a b = (first : BoardFields) × (before later : List Event)
    × SayScript (script_lines script) first (before ++ later) × MayBe script_login first before
    × (rest : List ℕ) × IsLast (length before) rest
    × Appends held now (log_after first before ++ rest)
    × Carries a (crossings script_login first before) b

-- nothing, and nothing was run: none was printed, or the line of a script that is unreadable; or a reader was read to
-- its end, and it was that of the script that was read
abbrev pub Carried : {A : Type 0} → (A → List Crossing → A → Type 0) → Option (List ℕ) → Option (List ℕ)
    → Option (List ℕ) → Option (List ℕ) → A → A → Type 0
Carried Carries left still held now a b =
    ((b ≡ a) × (Keeps held now ⊎ ((number : ℕ) × Appends held now (unread_text number))))
    ⊎ ((script : List ℕ) × Consumes left still script × IsAtEnd still × CarriedFor Carries script held now a b)
