-- The lines that a turn prints, without those of the directory.
use Rattle.std.specs.Prelude.{◌≡◌, ℕ, Bool, cond, nat_eq, List, [], ◌∷◌, ◌++◌, codes, Option}
use Rattle.std.specs.List.{flat_map, starts_with}
use Rattle.std.specs.Io.KnownBytes.{Appends}
use Rattle.fibs_session.specs.History.Machine.{Talk}
use Rattle.fibs_session.specs.Calls.Standing.{ClientValue}
use Rattle.fibs_connect.specs.declared.turns.Ending.{Ending}
use Rattle.fibs_connect.specs.Turns.Acts.{Act}
use Rattle.fibs_connect.specs.Lines.{text_of_lines}
use Rattle.fibs_connect.specs.Account.{lines_of}
use Rattle.fibs_connect.specs.Turns.Script.{Outside, acts_of}
use Rattle.fibs_connect.specs.Turns.Turn.{Turned, end_acts}

abbrev pub is_directory_line : List ℕ → Bool
is_directory_line line = starts_with nat_eq line (codes "directory ")

abbrev pub without_directory : List (List ℕ) → List (List ℕ)
without_directory [] = []
without_directory (line ∷ lines) =
    cond (is_directory_line line) (without_directory lines) (line ∷ without_directory lines)

abbrev pub lines_of_acts : List Act → List (List ℕ)
lines_of_acts = flat_map (λ act. flat_map lines_of act.tells)

-- what was printed is these lines, with lines of the directory among them
abbrev pub PrintsBesides : Outside (Option (List ℕ)) → Outside (Option (List ℕ)) → List (List ℕ) → Type 0
PrintsBesides a b lines =
    (all : List (List ℕ)) × Appends a.front b.front (text_of_lines all) × (without_directory all ≡ lines)

-- a turn prints the lines of the acts that were done, and then those of the end
abbrev pub TurnsPrintTheirActs : Type 0
TurnsPrintTheirActs =
    (t : Talk) (new : ClientValue) (typed left still : Option (List ℕ)) (a b : Outside (Option (List ℕ)))
    (e : Ending)
    (turned : Turned t new typed left still a b e)
    → PrintsBesides a b (lines_of_acts (acts_of turned.did.done ++ end_acts e))
