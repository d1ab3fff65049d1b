-- What a terminal tells for a board that the user watches (the project's own).
use Rattle.std.specs.Prelude.{◌≡◌, ℕ, List, Option, true}
use Rattle.fibs_fields.specs.Board.{BoardFields}
use Rattle.fibs_position.specs.Phases.{phase_of}
use Rattle.fibs_position.specs.Watched.{IsWatched}
use Rattle.fibs_picture.specs.WatchedTold.{SameToTheWatcher}
use Rattle.fibs_picture.specs.InWords.Rows.{IsBroken, words}
use Rattle.fibs_picture.specs.InWords.Tellings.{rows_before}
use Rattle.fibs_picture.specs.declared.in_words.told.Told.{Told}
use Rattle.fibs_wording.specs.declared.environment.settings.Settings.{Settings}

-- the board in words, in the numbers of the player who sits below, in rows that have room
abbrev pub TellsWatched : Settings → Option Told → BoardFields → List ℕ → Type 0
TellsWatched s before b text = IsBroken s.columns (words (rows_before before) true s.numbers b) text

-- watched boards of the same words after the same ones before are the same to the watcher, and in what the player is
-- to do
abbrev pub WatchedTellingsTell : Type 0
WatchedTellingsTell = (s : Settings) (before : Option Told) (a b : BoardFields) (text : List ℕ) → IsWatched a
    → IsWatched b → TellsWatched s before a text → TellsWatched s before b text
    → SameToTheWatcher s.numbers a b × (phase_of a ≡ phase_of b)
